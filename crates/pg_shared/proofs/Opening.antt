-- What no bytes begin, and a state after a history and more.
use Rattle.std.proofs.Common.{◌≡◌, ℕ, List, [], ◌∷◌, ◌++◌, reverse, refl, sym, subst}
use Rattle.pg_wire.specs.Split as cut
use Rattle.pg_wire.specs.Split.{frames_in}
use Rattle.pg_ingest.specs.Items.{AreTold}
use Rattle.pg_gateway.specs.GatewayEvents.{GatewayEvent, Answer}
use Rattle.pg_gateway.specs.State.{SharedMachine, next}
use Rattle.pg_gateway.specs.Histories.{state_after}

pub no_frames : frames_in [] ≡ []
unfolding frames_in cut.frames_by
no_frames = refl

pub none_told : (source : ℕ) → AreTold source (reverse (frames_in [])) []
none_told source = subst (λ frames. AreTold source (reverse frames) []) (sym no_frames) tt

pub state_after-append : (S : SharedMachine) (h k : List (GatewayEvent × Answer)) → state_after S (h ++ k) ≡ state_after (state_after S h) k
state_after-append S [] k = refl
state_after-append S (x ∷ xs) k = state_after-append (next S x.0 x.1) xs k
