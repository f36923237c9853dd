use Rattle.std.proofs.Common.{rules, ◌≡◌, ◌∙◌, ◌++◌, ◌+◌, ◌<◌, ◌^◌, ℕ, List, length, take, drop, nat_lt, true, if◌then◌else◌, [], sym, ap, append_assoc, length-append, Result, Ok, Err, IfOk}
use Rattle.pg_record.specs.Records.{start_bytes, end_bytes, record_bytes}
use Rattle.pg_record.specs.Taping.{body_of, front_bytes, spelled_call}
use Rattle.pg_record.specs.declared.tape.Front.{Front}
use Rattle.pg_record.specs.declared.tape.TapedCall.{TapedCall}
use Rattle.pg_record.proofs.tape.TapedCalls.write_call.Goals as goal

ok_by : {A E P Q : Type 0} (r : Result A E) → (P → Q) → IfOk r (λ _. P) → IfOk r (λ _. Q)
ok_by (Ok x) f p = f p
ok_by (Err e) f p = p

-- the parts of a record that its call spells, behind other bytes
together : (out front rest end start : List ℕ) → out ++ start ++ front ++ rest ++ end ≡ out ++ (start ++ (front ++ rest) ++ end)
together out front rest end start = simp append_assoc

spells : (bodies : List ℕ) (call : TapedCall) (size : ℕ) → size ≡ length (front_bytes call.front) + length (take call.len (drop call.from bodies)) → nat_lt size (2 ^ 16) ≡ true
    → start_bytes call.entry.kind call.entry.number size ++ (front_bytes call.front ++ take call.len (drop call.from bodies)) ++ end_bytes call.entry ≡ spelled_call bodies call
spells bodies call size is fits =
    let length_is : size ≡ length (body_of bodies call) = is ∙ sym (length-append (front_bytes call.front) (take call.len (drop call.from bodies))) in
    ap (λ n. start_bytes call.entry.kind call.entry.number n ++ body_of bodies call ++ end_bytes call.entry) length_is
    ∙ ap (λ b. if b then record_bytes call.entry (body_of bodies call) else []) (sym (ap (λ n. nat_lt n (2 ^ 16)) (sym length_is) ∙ fits))

pub returns : goal.returns
returns c =
    let bodies = c.args.self.now.bodies.items in
    let call = c.args.call.now in
    let out = c.args.out.now.items in
    let front = front_bytes call.front in
    let inside = take call.len (drop call.from bodies) in
    let start : c.record_start-start.result ≡ start_bytes call.entry.kind call.entry.number c.in-Ok.size = c.record_start-start.ensures in
    let rest : c.rest_of-rest.result.now ≡ inside = c.rest_of-rest.ensures in
    let behind : c.record_end.result ≡ end_bytes call.entry = c.record_end.ensures in
    let size : c.in-Ok.size ≡ length front + length inside = search rules in
    let fits : nat_lt c.in-Ok.size (2 ^ 16) ≡ true = search rules in
    record {
      written = ok_by c.write_parts.result (λ is. is
          ∙ ap (λ s. out ++ s ++ front ++ c.rest_of-rest.result.now ++ c.record_end.result) start
          ∙ ap (λ r. out ++ start_bytes call.entry.kind call.entry.number c.in-Ok.size ++ front ++ r ++ c.record_end.result) rest
          ∙ ap (λ e. out ++ start_bytes call.entry.kind call.entry.number c.in-Ok.size ++ front ++ inside ++ e) behind
          ∙ together out front inside (end_bytes call.entry) (start_bytes call.entry.kind call.entry.number c.in-Ok.size)
          ∙ ap (λ l. out ++ l) (spells bodies call c.in-Ok.size size fits)) c.write_parts.ensures.written;
    }
