-- What a change of some PMUs makes of a CFG-1 list.
use Rattle.std.specs.Prelude.{◌<◌, All, List, [], ◌∷◌, length, map}
use Rattle.pg_wire.specs.declared.ids.PmuKey.{PmuKey}
use Rattle.pg_outcfg.specs.Listing.{Listing, with_config, without_config}
use Rattle.pg_session.specs.Events.{announced_at}
use Rattle.pg_session.specs.Private.{put_all}
use Rattle.pg_session.specs.declared.change.Change.{Change}
use Rattle.pg_session.specs.declared.change.Change.TheVariants.{Put, PutAll, Remove}

-- the places are those of PMUs that the source has
abbrev pub IsOfParts : Change → Type 0
IsOfParts (Put key config) = Unit {0}
IsOfParts (PutAll config places) = All (λ i. i < length config.now.parts) places.now
IsOfParts (Remove key) = Unit {0}

-- the list after the change
abbrev pub list_after : Listing → Change → Listing
list_after listed (Put key config) = with_config listed key config.now
list_after listed (PutAll config places) = put_all listed (announced_at config.now places.now)
list_after listed (Remove key) = without_config listed key

-- the keys of which it speaks
abbrev pub keys_changed : Change → List PmuKey
keys_changed (Put key config) = key ∷ []
keys_changed (PutAll config places) = map (λ a. a.key) (announced_at config.now places.now)
keys_changed (Remove key) = key ∷ []
