use Rattle.std.proofs.Common.{rules, ◌≡◌, ℕ, List, [], ◌∷◌, ◌++◌, length, ap, sym, ◌∙◌, subst, Some}
use Rattle.pg_turn.specs.Turns.{IsLegal}
use Rattle.pg_turn.specs.Counting.{capped, CountedShows}
use Rattle.pg_turn.specs.Known.{Known, StandsIn}
use Rattle.pg_turn.proofs.Histories.{legal-more, stands-called}
use Rattle.pg_turn.proofs.turnstile.Turnstile.call_placed.Goals as goal

pub returns-clause-call : goal.returns-clause-call
returns-clause-call g c = let p = c.take.ensures.seen.0 in let was = c.take.new.place.me.0 in
    let call : g.row.M-Event.Denot × g.row.M-Reply.Denot = (c.args.event, c.step_held-reply.result) in
    let all : was.seen ≡ c.args.seat.seen ++ p.0 = sym p.1 ∙ ap (λ k. k.seen ++ p.0) c.seat.view_is in
    let mine : was.own ≡ c.args.seat.own = c.take.ensures.own.0 ∙ ap (λ k. k.own) c.seat.view_is in
    let now : c.give_back.new.place.me.0.seen ≡ was.seen ++ call ∷ [] = search rules in
    let own : c.give_back.new.place.me.0.own ≡ was.own ++ length was.seen ∷ [] = search rules in
    let may : g.M.Machine.may was.seen call.0 call.1 = search rules in record {
      between = p.0;
      seen = now ∙ ap (λ l. l ++ call ∷ []) all;
      own = own ∙ (λ i. mine i ++ length (all i) ∷ []);
      legal = subst (IsLegal g.M.Machine.may) (sym now) (legal-more g.M.Machine.may was.seen call.0 call.1 c.take.ensures.seen.1 may);
      others = subst (λ (k : Known g.row.M-Event.Denot g.row.M-Reply.Denot). StandsIn k.own k.seen) c.seat.view_is c.seat.invariant.3;
      place = c.next_place-number.ensures.value ∙ ap (λ l. capped (length l)) all;
    }

pub invariant_of-result : goal.invariant_of-result
invariant_of-result g c = let p = c.take.ensures.seen.0 in let was = c.take.new.place.me.0 in let old = c.seat.inside.place.me.0 in
    let call : g.row.M-Event.Denot × g.row.M-Reply.Denot = (c.args.event, c.step_held-reply.result) in
    let now : c.give_back.new.place.me.0.seen ≡ was.seen ++ call ∷ [] = search rules in
    let own : c.give_back.new.place.me.0.own ≡ old.own ++ length was.seen ∷ [] = search rules in (
      search rules,
      search rules,
      search rules,
      subst (λ (z : List ℕ × List (g.row.M-Event.Denot × g.row.M-Reply.Denot)). StandsIn z.0 z.1) (λ i. (sym own i, sym now i)) (stands-called old.own old.seen was.seen call c.seat.invariant.3 p),
    )

pub next_place-number-requires-clause-taken : goal.next_place-number-requires-clause-taken
next_place-number-requires-clause-taken g c = let t = c.take.ensures.taken in (t.0, t.1 ∙ ap (λ l. (0, Some t.0) ∷ l) c.seat.invariant.0, t.2)

pub step_held-reply-requires-clause-taken : goal.step_held-reply-requires-clause-taken
step_held-reply-requires-clause-taken g c = let t = c.take.ensures.taken in let same = c.next_place-number.ensures.same in (
  t.0,
  ap (λ m. m.1) same ∙ (t.1 ∙ ap (λ l. (0, Some t.0) ∷ l) c.seat.invariant.0),
  subst (λ (l : List (g.row.M-Event.Denot × g.row.M-Reply.Denot)). CountedShows g.M.Machine.shows t.0 l) (sym (ap (λ m. m.0.seen) same)) t.2,
)

pub give_back-requires-clause-stepped : goal.give_back-requires-clause-stepped
give_back-requires-clause-stepped g c = let t = c.step_held-reply.ensures.stepped in (
  t.0,
  t.1,
  subst (λ (z : List (g.row.M-Event.Denot × g.row.M-Reply.Denot) × g.row.M-Event.Denot). CountedShows g.M.Machine.shows t.0 (z.0 ++ (z.1, c.step_held-reply.result) ∷ []))
      (λ i. ((sym c.step_held-reply.ensures.view i).seen, sym c.of-asked.ensures i)) t.2,
)
