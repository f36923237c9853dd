-- Where two worlds' events agree on what a subscriber is to see, its views of both are the same, and so it is served alike.
use Rattle.std.proofs.Common.{◌≡◌, ℕ, List, [], ◌∷◌, ◌++◌, None, refl, sym, ap, ap₂, ◌∙◌}
use Rattle.std.proofs.lemmas.List.{append_assoc}
use Rattle.pg_gateway.specs.GatewayEvents.{GatewayEvent}
use Rattle.pg_gateway.specs.State.{SharedMachine, opening as shared_opening, own_of}
use Rattle.pg_gateway.specs.Views.{ViewEvent, shared_step, shared_run, part, view, private_run, handed_in}
use Rattle.pg_gateway.proofs.SlotLaws.{Alone}
use Rattle.pg_gateway.proofs.ViewLaws.{own-run}
use Rattle.pg_gateway.proofs.RunLaws.{Alone-run, agreeing_parts}
use Rattle.pg_serve.specs.Inputs.{InputValue, Outcome}
use Rattle.pg_serve.specs.Shown.{WorldValue}
use Rattle.pg_serve.specs.Full.{view_of, queue_of}
use Rattle.pg_serve.specs.Headline.{OutcomesLossless, HasAnswered, Headline}
use Rattle.pg_serve.specs.Beside.{Beside, frames, events, mine, other, mine_by, other_by, mine_of, other_of, AgreeAt, Agree, SeeAlike, ServesAlike, StandsBeside}
use Rattle.pg_serve.proofs.Apart.{ungranted_unseen}
use Rattle.pg_serve.proofs.Isolating.{isolated}

view-append : (u : ℕ) (S : SharedMachine) (es fs : List GatewayEvent) → view u S (es ++ fs) ≡ view u S es ++ view u (shared_run S es) fs
view-append u S [] fs = refl
view-append u S (e ∷ es) fs =
    ap (λ rest. part u S e ++ rest) (view-append u (shared_step S e) es fs)
    ∙ sym (append_assoc (part u S e) (view u (shared_step S e) es) (view u (shared_run (shared_step S e) es) fs))

-- what u sees of a pair is the same
same_part : (u : ℕ) (S T : SharedMachine) (x : Beside) → own_of u S ≡ own_of u T → AgreeAt u S T x → view u S (mine_by x) ≡ view u T (other_by x)
same_part u S T (frames m n) own agree = ap (λ seen. seen ++ []) (agreeing_parts u S T m n own agree.0 agree.1 agree.2)
same_part u S T (events e f) own agree = ap (λ seen. seen ++ []) agree
same_part u S T (mine e) own agree = ap (λ seen. seen ++ []) agree
same_part u S T (other f) own agree = sym (ap (λ seen. seen ++ []) agree)

same_views : (u : ℕ) (S T : SharedMachine) (pairs : List Beside) → Alone S.subs → Alone T.subs → own_of u S ≡ own_of u T → Agree u S T pairs
    → view u S (mine_of pairs) ≡ view u T (other_of pairs)
same_views u S T [] alone alone' own agree = refl
same_views u S T (x ∷ pairs) alone alone' own agree =
    let part = same_part u S T x own agree.0 in
    let own' : own_of u (shared_run S (mine_by x)) ≡ own_of u (shared_run T (other_by x)) =
    own-run u S (mine_by x) alone ∙ ap₂ private_run own part ∙ sym (own-run u T (other_by x) alone') in
    view-append u S (mine_by x) (mine_of pairs)
    ∙ ap₂ (λ (a b : List ViewEvent). a ++ b) part
    (same_views u (shared_run S (mine_by x)) (shared_run T (other_by x)) pairs (Alone-run S (mine_by x) alone) (Alone-run T (other_by x) alone') own' agree.1)
    ∙ sym (view-append u T (other_by x) (other_of pairs))

seen_alike : (u : ℕ) (inputs others : List InputValue) → SeeAlike u inputs others → view_of u inputs ≡ view_of u others
seen_alike u inputs others see =
    ap (view u shared_opening) (sym see.mine)
    ∙ same_views u shared_opening shared_opening see.pairs tt tt refl see.agree
    ∙ ap (view u shared_opening) see.other

served : (u : ℕ) (w v : WorldValue) (inputs others : List InputValue) (told answers : List Outcome) → Headline w inputs told → Headline v others answers
    → view_of u inputs ≡ view_of u others → ServesAlike u w inputs told v others answers
served u w v inputs others told answers first second same = record {
  queued = first.queued u ∙ ap (λ seen. queue_of (private_run None seen)) same ∙ sym (second.queued u);
  handed = first.handed u ∙ ap (handed_in None) same ∙ sym (second.handed u);
}

pub stands_beside : (w : WorldValue) (inputs : List InputValue) (told : List Outcome) → OutcomesLossless told → HasAnswered w inputs told
    → StandsBeside w inputs told
stands_beside w inputs told lossless has = record {
  views = λ u v others answers answered whole same.
      served u w v inputs others told answers (isolated w inputs told lossless has) (isolated v others answers whole answered) same;
  frames = λ u v others answers answered whole see.
      served u w v inputs others told answers (isolated w inputs told lossless has) (isolated v others answers whole answered)
      (seen_alike u inputs others see);
  bytes = λ u v others answers answered whole few alike.
      served u w v inputs others told answers (isolated w inputs told lossless has) (isolated v others answers whole answered)
      (ungranted_unseen u inputs others few alike);
}
