use Rattle.std.proofs.Common.{rules, ◌≡◌, ℕ, ◌+◌, ◌<◌, ◌^◌, ◌++◌, ◌∙◌, ap, sym, subst, length, map, Some}
use Rattle.std.specs.Prelude.{slice_get}
use Rattle.std.specs.Arc.{arc_value}
use Rattle.std.proofs.lemmas.List.{length-map}
use Rattle.std.proofs.lemmas.Int.{to_z-of_z}
use mir.Val.{SFits, of_z, to_z}
use Rattle.std.specs.Int.{w16, w32, to_be_bytes}
use Rattle.pg_wire.specs.declared.kind.Kind.TheVariants.{CfgTwo}
use Rattle.pg_wire.specs.Head.{IsFrame}
use Rattle.pg_wire.specs.Heads.{start_of, ended}
use Rattle.pg_wire.specs.Stream.{joined}
use Rattle.pg_config.specs.Parts.{Part, IsSource}
use Rattle.pg_config.specs.Reading.{config_of}
use Rattle.pg_config.specs.Writing.{reply_heading, block_with_count}
use Rattle.pg_config.specs.Sourced.{source_body, source_frame, IsOfRate}
use Rattle.pg_config.proofs.Fields.{InBytes}
use Rattle.pg_config.proofs.Sourcing.{own-length, parts-of, source-filled, source-framed, source-read, source-is_frame, body-among, begins-with, of-rate}
use Rattle.pg_config.proofs.write.write_source.Goals as goal

-- what stands there before the check: of the first PMU's resolution and rate, which all have
abbrev Filled : goal.In_ok-add_check → Type 0
Filled c = (base rate : ℕ) × IsOfRate base rate c.args.config.now
    × (c.extend_from_slice-3.new.self.items ≡ start_of (reply_heading CfgTwo c.args.config.now.source 0) (16 + length (source_body base rate c.args.config.now)) ++ source_body base rate c.args.config.now)

filled : (c : goal.In_ok-add_check) → Filled c
filled c =
    let s = c.args.config.now in
    let is : IsSource s = search rules in
    let first = c.deref.result.now in
    let base = first.base in
    let rate = c.cast_unsigned-rate.result in
    let size = 24 + c.blocks_len-size.result in
    let all : map arc_value c.as_slice-parts.result.now ≡ s.parts = search rules in
    let at : slice_get c.as_slice-parts.result.now 0 ≡ Some c.in-Some.first.now = search rules in
    let begins = begins-with arc_value c.as_slice-parts.result.now s.parts c.in-Some.first.now first at all c.deref.ensures in
    let fits : SFits w16 first.rate = search rules in
    let bits : rate ≡ of_z w16 first.rate = search rules in
    let signed : first.rate ≡ to_z w16 rate = sym (ap (to_z w16) bits ∙ to_z-of_z w16 first.rate fits) in
    let small : base < 2 ^ 24 = search rules in
    let rate_small : rate < 2 ^ 16 = search rules in
    let of : IsOfRate base rate s = record { base_fits = small; rate_fits = rate_small; each = of-rate s first begins.0 rate is begins.1 signed } in
    let sized : size ≡ 24 + length (joined (map (λ (p : Part). p.block) s.parts)) = ap (λ n. 24 + n) (c.blocks_len-size.ensures.value 0 ∙ ap (λ ps. length (joined (map (block_with_count 0) ps))) all ∙ own-length 0 s.parts (parts-of s is)) in
    let start : c.in_ok-frame.frame.items ≡ start_of (reply_heading CfgTwo s.source 0) size = search rules in
    let one : c.extend_from_slice.new.self.items ≡ c.in_ok-frame.frame.items ++ to_be_bytes w32 base = search rules in
    let number : length c.as_slice-parts.result.now ≡ length s.parts = sym (length-map c.as_slice-parts.result.now arc_value) ∙ ap length all in
    let added : c.extend_from_slice-2.new.self.items ≡ c.extend_from_slice.new.self.items ++ to_be_bytes w16 (length c.as_slice-parts.result.now) = search rules in
    let two : c.extend_from_slice-2.new.self.items ≡ c.extend_from_slice.new.self.items ++ to_be_bytes w16 (length s.parts) =
    added ∙ ap (λ n. c.extend_from_slice.new.self.items ++ to_be_bytes w16 n) number in
    let three : c.push_blocks.new.frame.items ≡ c.extend_from_slice-2.new.self.items ++ joined (map (λ (p : Part). p.block) s.parts) = search rules in
    let four : c.extend_from_slice-3.new.self.items ≡ c.push_blocks.new.frame.items ++ to_be_bytes w16 rate = search rules in (
      base,
      rate,
      of,
      four ∙ ap (λ l. l ++ to_be_bytes w16 rate)
          (three ∙ ap (λ l. l ++ joined (map (λ (p : Part). p.block) s.parts)) (two ∙ ap (λ l. l ++ to_be_bytes w16 (length s.parts)) (one ∙ ap (λ l. l ++ to_be_bytes w32 base) start)))
          ∙ source-filled base rate s size sized,
    )

whole_is : (c : goal.In_ok-add_check) (t : Filled c) → c.add_check.new.frame.items ≡ source_frame t.0 t.1 c.args.config.now
whole_is c t =
    let done : c.add_check.new.frame.items ≡ ended c.extend_from_slice-3.new.self.items = search rules in
    done ∙ source-framed t.0 t.1 c.args.config.now c.extend_from_slice-3.new.self.items t.3

pub returns-clause-frame : goal.returns-clause-frame
returns-clause-frame c = let t = filled c in (t.0, t.1, t.2, whole_is c t)

pub returns-clause-read : goal.returns-clause-read
returns-clause-read c =
    let s = c.args.config.now in
    let is : IsSource s = search rules in
    let small : s.source < 2 ^ 16 = search rules in
    let t = filled c in
    ap config_of (whole_is c t) ∙ source-read t.0 t.1 s is small t.2

pub returns-clause-whole : goal.returns-clause-whole
returns-clause-whole c =
    let s = c.args.config.now in
    let is : IsSource s = search rules in
    let small : s.source < 2 ^ 16 = search rules in
    let t = filled c in
    let body = source_body t.0 t.1 s in
    let octets : InBytes (source_body t.0 t.1 s) =
    body-among (reply_heading CfgTwo s.source 0) (16 + length body) body (subst InBytes t.3 c.add_check.ensures.octets) in
    subst IsFrame (sym (whole_is c t)) (source-is_frame t.0 t.1 s is small octets)
