-- What is answered to a whole head is never that more has to come.
use Rattle.std.proofs.Common.{rules, ◌≡◌, Bool, Result, Ok, Err, List, ℕ, codes}
use Rattle.std.specs.Str.{bytes_eq}
use Rattle.pg_status.specs.declared.request.Shown.{Shown}
use Rattle.pg_status.specs.declared.request.HttpError.{HttpError}
use Rattle.pg_status.specs.declared.request.Request.{Request}
use Rattle.pg_status.specs.declared.request.Request.TheVariants.{Partial}
use Rattle.pg_status.specs.Requests.{answered, asked, found}

pub found_whole : (is_head : Bool) (shown : Result Shown HttpError) → found is_head shown ≡ Partial → ⊥
found_whole is_head (Ok shown) e = absurd cc
found_whole is_head (Err denial) e = absurd cc

pub answered_whole : (method target : List ℕ) → answered method target ≡ Partial → ⊥
answered_whole method target e = search (rules, found_whole)
