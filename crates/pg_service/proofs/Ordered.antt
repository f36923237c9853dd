-- The setup's edits, one after another.
use Rattle.std.specs.Prelude.{Result, Err, IfOk}
use Rattle.std.proofs.Common.{◌≡◌, ◌∙◌, sym, ap, subst, List, [], ◌∷◌, ◌++◌, map, append_assoc, Option}
use Rattle.std.proofs.lemmas.List.{map-append}
use Rattle.pg_gateway.specs.declared.edit.Edit.{Edit}
use Rattle.pg_gateway.specs.GatewayEvents.{Answer}
use Rattle.pg_gateway.specs.Posting.{Posted, Notes}
use Rattle.pg_ingest.specs.Runs.{event_posted}
use Rattle.pg_ingest.proofs.Known.{notes_more}
use Rattle.pg_shared.specs.Edits.{edited}
use Rattle.pg_service.specs.Setting.{PostsEdits}

-- What holds where it is Ok holds of a fault.
pub holds_of_fault : {X E : Type 0} (r : Result X E) (e : E) (P : Type 0) → r ≡ Err e → IfOk r (λ x. P)
holds_of_fault r e P h = subst (λ s. IfOk s (λ x. P)) (sym h) tt

-- The next of the edits that are left is posted.
pub next_posted : (edits before after : List Edit) (e : Edit) (a b c : Option (List Posted)) → before ≡ e ∷ after → PostsEdits edits before a b
    → (x : Answer) × Notes b c ((edited e, x) ∷ []) → PostsEdits edits after a c
next_posted edits before after e a b c same h k = record {
  calls = h.calls ++ (edited e, k.0) ∷ [];
  noted = notes_more a b c h.calls ((edited e, k.0) ∷ []) h.noted k.1;
  order = ap (λ v. v ++ map edited after) (map-append event_posted h.calls ((edited e, k.0) ∷ []))
      ∙ append_assoc (map event_posted h.calls) (edited e ∷ []) (map edited after)
      ∙ sym (ap (λ v. map event_posted h.calls ++ map edited v) same) ∙ h.order;
}
