-- The setup's edits.
use Rattle.std.specs.Prelude.{◌≡◌, List, ◌++◌, map, Option}
use Rattle.pg_gateway.specs.declared.edit.Edit.{Edit}
use Rattle.pg_gateway.specs.Posting.{Posted, Notes}
use Rattle.pg_ingest.specs.Runs.{event_posted}
use Rattle.pg_shared.specs.Edits.{edited}

-- Of these edits all were posted but the rest: each once, and in their order.
pub record PostsEdits (edits rest : List Edit) (before after : Option (List Posted)) : Type 0 where
  pub calls : List Posted
  pub noted : Notes before after calls
  pub order : map event_posted calls ++ map edited rest ≡ map edited edits
