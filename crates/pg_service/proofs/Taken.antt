-- What a gate posts, whichever events it takes.
use Rattle.std.proofs.Common.{◌≡◌, refl, Bool, true, false, not, ◌&&◌, List, [], ◌∷◌, Option}
use Rattle.pg_gateway.specs.declared.edit.Edit.{Edit}
use Rattle.pg_gateway.specs.declared.edit.Edit.TheVariants as edit
use Rattle.pg_gateway.specs.GatewayEvents.{GatewayEvent, Answer}
use Rattle.pg_gateway.specs.Posting.{IsMeasured, Posted, Notes, posted_if}
use Rattle.pg_shared.specs.Edits.{edited}
use Rattle.pg_ingest.proofs.Known.{notes_nil}

-- A gate posts all but data frames, whichever of these it takes.
pub posts_other : (takes : GatewayEvent → Bool) → ((o : GatewayEvent) → takes o ≡ false → IsMeasured o) → (o : GatewayEvent) → (IsMeasured o → ⊥) → (a : Answer)
    (p p' : Option (List Posted)) → Notes p p' (posted_if (takes o) o a) → Notes p p' ((o, a) ∷ [])
posts_other takes frames o other a p p' notes = by (takes o) refl notes
  where
    by : (b : Bool) → takes o ≡ b → Notes p p' (posted_if b o a) → Notes p p' ((o, a) ∷ [])
    by true e n = n
    by false e n = absurd (other (frames o e))

no_frame : (e : Edit) → IsMeasured (edited e) → ⊥
no_frame (edit.AddPmu key) m = m
no_frame (edit.DropPmu key) m = m
no_frame (edit.AddSub sub ring bytes) m = m
no_frame (edit.DropSub sub) m = m
no_frame (edit.Grant sub key) m = m
no_frame (edit.Revoke sub key) m = m
no_frame (edit.Define sub definition) m = m
no_frame (edit.Remove sub stream) m = m
no_frame (edit.Stats sub) m = m
no_frame (edit.PmuStats key) m = m
no_frame (edit.Audit sub index) m = m

pub posts_edit : (takes : GatewayEvent → Bool) → ((o : GatewayEvent) → takes o ≡ false → IsMeasured o) → (e : Edit) (a : Answer)
    (p p' : Option (List Posted)) → Notes p p' (posted_if (takes (edited e)) (edited e) a) → Notes p p' ((edited e, a) ∷ [])
posts_edit takes frames e a p p' notes = posts_other takes frames (edited e) (no_frame e) a p p' notes

-- A guard that takes an event posts what the gate inside posts, and one that does not posts nothing.
pub posts_taken : (b c : Bool) (o : GatewayEvent) (a : Answer) (p p' : Option (List Posted)) → b ≡ true → Notes p p' (posted_if c o a) → Notes p p' (posted_if (b && c) o a)
posts_taken true c o a p p' e notes = notes
posts_taken false c o a p p' e notes = absurd (cc e)

pub posts_refused : (b c : Bool) (o : GatewayEvent) (a : Answer) (p : Option (List Posted)) → b ≡ false → Notes p p (posted_if (b && c) o a)
posts_refused false c o a p e = notes_nil p
posts_refused true c o a p e = absurd (cc e)

pub not_false : (b : Bool) → not b ≡ false → b ≡ true
not_false true e = refl
not_false false e = absurd (cc e)

pub and_false : (b c : Bool) → b ≡ true → (b && c) ≡ false → c ≡ false
and_false true c e f = f
and_false false c e f = absurd (cc e)
