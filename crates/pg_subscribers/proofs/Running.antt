-- Calls of a session's loop, one after another, and those that read nothing.
use Rattle.std.proofs.Common.{◌≡◌, ◌∙◌, refl, sym, subst, ℕ, List, [], ◌++◌, append-nil, Option, Some}
use Rattle.std.specs.Io.KnownBytes.{Consumes}
use Rattle.pg_session.specs.Commands.{Hearing, Item, ShowsHearing}
use Rattle.pg_gateway.specs.Posting.{Posted}
use Rattle.pg_ingest.specs.declared.run.End.{End}
use Rattle.pg_ingest.proofs.Known.{notes_nil, appends_nil, consumes_nil}
use Rattle.pg_shared.specs.Serving.{Ran, Served}

pub served_ran : (end : End) (v v' : Hearing) (r r' w w' : Option (List ℕ)) (p p' : Option (List Posted)) → Served end v v' r r' w w' p p'
    → Ran v v' r r' w w' p p'
served_ran end v v' r r' w w' p p' h stream given shows = (h stream given shows).ran

-- where no call was made
pub ran_none : (v : Hearing) (r w : Option (List ℕ)) (p : Option (List Posted)) → Ran v v r r w w p p
ran_none v r w p stream given shows = record {
  bytes = [];
  items = [];
  calls = [];
  out = [];
  sub = refl;
  buffer = refl;
  shows = subst (λ s. ShowsHearing v s (given ++ [])) (sym (append-nil stream)) (subst (λ g. ShowsHearing v stream g) (sym (append-nil given)) shows);
  read = consumes_nil r;
  posted = notes_nil p;
  passed = refl;
  wrote = appends_nil w;
  goes_on = sym (append-nil v.left);
  written = tt;
}

-- What a reader without a byte gave is nothing, so any reader goes on as it was.
pub nothing_read : (v v' : Hearing) (w w' : Option (List ℕ)) (p p' : Option (List Posted)) → Ran v v' (Some []) (Some []) w w' p p'
    → (r : Option (List ℕ)) → Ran v v' r r w w' p p'
nothing_read v v' w w' p p' h r stream given shows =
    let x = h stream given shows in
    let none : x.bytes ≡ [] = sym (x.read ∙ append-nil x.bytes) in
    record {
      bytes = x.bytes;
      items = x.items;
      calls = x.calls;
      out = x.out;
      sub = x.sub;
      buffer = x.buffer;
      shows = x.shows;
      read = subst (λ b. Consumes r r b) (sym none) (consumes_nil r);
      posted = x.posted;
      passed = x.passed;
      wrote = x.wrote;
      goes_on = x.goes_on;
      written = x.written;
    }

-- the same from the same session
pub ran_as : (v u v' : Hearing) (r r' w w' : Option (List ℕ)) (p p' : Option (List Posted)) → v ≡ u → Ran v v' r r' w w' p p'
    → Ran u v' r r' w w' p p'
ran_as v u v' r r' w w' p p' e h = subst (λ x. Ran x v' r r' w w' p p') e h
