-- What a gate posts of events that it takes.
use Rattle.std.proofs.Common.{◌≡◌, ℕ, Bool, true, false, List, [], ◌∷◌, Option, refl}
use Rattle.pg_session.specs.Events.{SubscriberEvent}
use Rattle.pg_gateway.specs.GatewayEvents.{GatewayEvent, Answer, asks}
use Rattle.pg_gateway.specs.Posting.{IsMeasured, Posted, Notes, posted_if}

-- It posts all that a subscriber asks, since only data frames of sources are not taken.
pub posts_asked : (takes : GatewayEvent → Bool) → ((o : GatewayEvent) → takes o ≡ false → IsMeasured o) → (u : ℕ) (h : SubscriberEvent) (a : Answer)
    (p p' : Option (List Posted)) → Notes p p' (posted_if (takes (asks u h)) (asks u h) a) → Notes p p' ((asks u h, a) ∷ [])
posts_asked takes frames u h a p p' notes = by (takes (asks u h)) refl notes
  where
    by : (b : Bool) → takes (asks u h) ≡ b → Notes p p' (posted_if b (asks u h) a) → Notes p p' ((asks u h, a) ∷ [])
    by true e n = n
    by false e n = absurd (frames (asks u h) e)
