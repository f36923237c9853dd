-- What waits is what is left of all that was sent.
use Rattle.std.proofs.Common.{◌≡◌, ℕ, ◌++◌, is_some, false, Option, None, Some, List, [], ◌∷◌, refl, sym, ◌∙◌, ap, append_assoc, append-nil}
use Rattle.std.proofs.lemmas.List.{append_cancel_left}
use Rattle.pg_tools.specs.declared.expected_frames.ExpectedFrame.{ExpectedFrame}
use Rattle.pg_tools.specs.declared.expected_frames.WrongFrame.{WrongFrame}
use Rattle.pg_tools.specs.Expecting.{FrameContent, content, contents, Step, sent, received, all_sent, all_received, IsPrefix, InOrder, Whole, IsFirst, Keeps}

pub contents-append : (fs : List ExpectedFrame) (f : ExpectedFrame) → contents (fs ++ f ∷ []) ≡ contents fs ++ content f ∷ []
contents-append [] f = refl
contents-append (g ∷ fs) f = ap (λ x. content g ∷ x) (contents-append fs f)

-- A frame is sent.
pub keeps-sent : (w : Option WrongFrame) (fs : List ExpectedFrame) (f : ExpectedFrame) (past : List Step) → Keeps w fs past → Keeps w (fs ++ f ∷ []) (sent (content f) ∷ past)
keeps-sent None fs f past (r, e) =
    let e2 : all_sent past ++ content f ∷ [] ≡ all_received past ++ contents (fs ++ f ∷ []) =
    ap (λ x. x ++ content f ∷ []) e
    ∙ append_assoc (all_received past) (contents fs) (content f ∷ [])
    ∙ ap (λ x. all_received past ++ x) (sym (contents-append fs f)) in
    ((r, (contents (fs ++ f ∷ []), e2)), e2)
keeps-sent (Some w) fs f past h = λ (r, b). h r

-- The first that waits comes.
pub keeps-received : (w : Option WrongFrame) (f : ExpectedFrame) (fs : List ExpectedFrame) (t : FrameContent) (past : List Step) → content f ≡ t → Keeps w (f ∷ fs) past → Keeps w fs (received t ∷ past)
keeps-received None f fs t past same (r, e) =
    let e2 : all_sent past ≡ (all_received past ++ t ∷ []) ++ contents fs =
    e
    ∙ ap (λ x. all_received past ++ x ∷ contents fs) same
    ∙ sym (append_assoc (all_received past) (t ∷ []) (contents fs)) in
    ((r, (contents fs, e2)), e2)
keeps-received (Some w) f fs t past same h = λ (r, b). h r

is_first : (fs : List ExpectedFrame) (t : FrameContent) (rest : List FrameContent) → contents fs ≡ t ∷ rest → IsFirst fs t
is_first [] t rest e = absurd (cc e)
is_first (f ∷ fs) t rest e = cc e

-- Another one comes.
pub keeps-wrong : (w : Option WrongFrame) (k : WrongFrame) (fs gs : List ExpectedFrame) (t : FrameContent) (past : List Step) → (IsFirst fs t → ⊥) → Keeps w fs past → Keeps (Some k) gs (received t ∷ past)
keeps-wrong None k fs gs t past other (r, e) = λ (r2, (rest, e2)).
    other (is_first fs t rest
    (append_cancel_left (all_received past) (contents fs) (t ∷ rest)
    (sym e ∙ e2 ∙ append_assoc (all_received past) (t ∷ []) rest)))
keeps-wrong (Some w) k fs gs t past other h = λ (r, b). h r

contents-none : (fs : List ExpectedFrame) → contents fs ≡ [] → fs ≡ []
contents-none [] e = refl
contents-none (f ∷ fs) e = absurd (cc e)

-- All has come where nothing waits.
pub keeps-whole : (past : List Step) → Keeps None [] past → Whole past
keeps-whole past (r, e) = (r, sym (e ∙ append-nil (all_received past)))

-- And then alone.
pub whole-keeps : (w : Option WrongFrame) (fs : List ExpectedFrame) (past : List Step) → Keeps w fs past → Whole past → (w ≡ None) × (fs ≡ [])
whole-keeps None fs past (r, e) (r2, e2) = (
  refl,
  contents-none fs
      (sym (append_cancel_left (all_received past) [] (contents fs)
      (append-nil (all_received past) ∙ e2 ∙ e))),
)
whole-keeps (Some w) fs past h (r2, e2) = absurd (h r2)

-- Where nothing was wrong, all has come just where nothing waits.
pub whole_then : (w : Option WrongFrame) (fs : List ExpectedFrame) (past : List Step) → is_some w ≡ false → fs ≡ [] → Keeps w fs past → Whole past
whole_then None [] past s n h = keeps-whole past h
whole_then None (f ∷ fs) past s n h = absurd (cc n)
whole_then (Some w) fs past s n h = absurd (cc s)

pub whole_only : (w : Option WrongFrame) (fs : List ExpectedFrame) (past : List Step) → Keeps w fs past → Whole past → fs ≡ []
whole_only w fs past h all = (whole-keeps w fs past h all).1
