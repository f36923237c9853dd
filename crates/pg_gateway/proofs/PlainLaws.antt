-- By the forms of events: what one subscriber is asked and has noted is answered without a buffer, and four are for all.
use Rattle.std.proofs.Common.{◌≡◌, Some, None, refl}
use Rattle.pg_audit.specs.declared.audit.What.{What}
use Rattle.pg_session.specs.Events.{subscriber_event}
use Rattle.pg_session.specs.Ready.{IsPlain, KeepsBuffer}
use Rattle.pg_session.specs.declared.event.PrivateEvent.{PrivateEvent}
use Rattle.pg_session.specs.declared.event.PrivateEvent.TheVariants as private
use Rattle.pg_session.specs.declared.event.PrivateReply.{PrivateReply}
use Rattle.pg_gateway.specs.State.{noted_as}
use Rattle.pg_gateway.specs.declared.event.Event.{Event}
use Rattle.pg_gateway.specs.declared.event.Event.TheVariants as kind
use Rattle.pg_gateway.specs.declared.event.Reply.{Reply}
use Rattle.pg_gateway.specs.Posting as posting
use Rattle.pg_gateway.specs.Taking.{IsForAll}

none_noted : (what : What) → None ≡ Some what → ⊥
none_noted what e = cc

pub asked_plain : (e : PrivateEvent) (r : PrivateReply) (what : What) → noted_as (subscriber_event e) ≡ Some what → KeepsBuffer e r → IsPlain r
asked_plain (private.Drain buf) r what noted keeps = absurd (none_noted what noted)
asked_plain (private.Grant key config) r what noted keeps = keeps
asked_plain (private.Revoke key) r what noted keeps = keeps
asked_plain (private.Announce config places) r what noted keeps = keeps
asked_plain (private.Measure frame places) r what noted keeps = keeps
asked_plain (private.Define definition) r what noted keeps = keeps
asked_plain (private.Remove number) r what noted keeps = keeps
asked_plain (private.Tick soc) r what noted keeps = keeps
asked_plain private.Connect r what noted keeps = keeps
asked_plain private.Hangup r what noted keeps = keeps
asked_plain (private.Command asked) r what noted keeps = keeps

-- an event for all is one of four
pub one_of_four : (e : Event) → IsForAll e → ((x : _) → e ≡ kind.DropPmu x → ⊥) → ((x : _) → e ≡ kind.Announce x → ⊥) → ((x : _) → e ≡ kind.Measure x → ⊥) → ((x : _) → e ≡ kind.Tick x → ⊥) → ⊥
one_of_four (kind.DropPmu key) all drop announce measure tick = drop key refl
one_of_four (kind.Announce config) all drop announce measure tick = announce config refl
one_of_four (kind.Measure frame) all drop announce measure tick = measure frame refl
one_of_four (kind.Tick soc) all drop announce measure tick = tick soc refl
one_of_four (kind.AddPmu key) all drop announce measure tick = all
one_of_four (kind.AddSub u size bytes) all drop announce measure tick = all
one_of_four (kind.DropSub u) all drop announce measure tick = all
one_of_four (kind.Grant u key) all drop announce measure tick = all
one_of_four (kind.Revoke u key) all drop announce measure tick = all
one_of_four (kind.Define u definition) all drop announce measure tick = all
one_of_four (kind.Remove u number) all drop announce measure tick = all
one_of_four (kind.Connect u) all drop announce measure tick = all
one_of_four (kind.Hangup u) all drop announce measure tick = all
one_of_four (kind.Command u asked) all drop announce measure tick = all
one_of_four (kind.Drain u buf) all drop announce measure tick = all
one_of_four (kind.Stats u) all drop announce measure tick = all
one_of_four (kind.PmuStats key) all drop announce measure tick = all
one_of_four (kind.WhoWaits subs) all drop announce measure tick = all
one_of_four (kind.Audit u index) all drop announce measure tick = all
one_of_four (kind.Standing u place) all drop announce measure tick = all

-- and all others are for one, or for none
pub else_for_all : (e : Event) → ((key : _) → e ≡ kind.AddPmu key → ⊥) → ((u : _) → (size : _) → (bytes : _) → e ≡ kind.AddSub u size bytes → ⊥) → ((u : _) → e ≡ kind.DropSub u → ⊥) → ((u : _) → (key : _) → e ≡ kind.Grant u key → ⊥) → ((u : _) → (key : _) → e ≡ kind.Revoke u key → ⊥) → ((u : _) → (definition : _) → e ≡ kind.Define u definition → ⊥) → ((u : _) → (number : _) → e ≡ kind.Remove u number → ⊥) → ((u : _) → e ≡ kind.Connect u → ⊥) → ((u : _) → e ≡ kind.Hangup u → ⊥) → ((u : _) → (asked : _) → e ≡ kind.Command u asked → ⊥) → ((u : _) → (buf : _) → e ≡ kind.Drain u buf → ⊥) → ((u : _) → e ≡ kind.Stats u → ⊥) → ((key : _) → e ≡ kind.PmuStats key → ⊥) → ((u : _) → (index : _) → e ≡ kind.Audit u index → ⊥) → ((u : _) → (place : _) → e ≡ kind.Standing u place → ⊥) → ((subs : _) → e ≡ kind.WhoWaits subs → ⊥) → IsForAll e
else_for_all (kind.AddPmu key) nAddPmu nAddSub nDropSub nGrant nRevoke nDefine nRemove nConnect nHangup nCommand nDrain nStats nPmuStats nAudit nStanding nWhoWaits = absurd (nAddPmu key refl)
else_for_all (kind.AddSub u size bytes) nAddPmu nAddSub nDropSub nGrant nRevoke nDefine nRemove nConnect nHangup nCommand nDrain nStats nPmuStats nAudit nStanding nWhoWaits = absurd (nAddSub u size bytes refl)
else_for_all (kind.DropSub u) nAddPmu nAddSub nDropSub nGrant nRevoke nDefine nRemove nConnect nHangup nCommand nDrain nStats nPmuStats nAudit nStanding nWhoWaits = absurd (nDropSub u refl)
else_for_all (kind.Grant u key) nAddPmu nAddSub nDropSub nGrant nRevoke nDefine nRemove nConnect nHangup nCommand nDrain nStats nPmuStats nAudit nStanding nWhoWaits = absurd (nGrant u key refl)
else_for_all (kind.Revoke u key) nAddPmu nAddSub nDropSub nGrant nRevoke nDefine nRemove nConnect nHangup nCommand nDrain nStats nPmuStats nAudit nStanding nWhoWaits = absurd (nRevoke u key refl)
else_for_all (kind.Define u definition) nAddPmu nAddSub nDropSub nGrant nRevoke nDefine nRemove nConnect nHangup nCommand nDrain nStats nPmuStats nAudit nStanding nWhoWaits = absurd (nDefine u definition refl)
else_for_all (kind.Remove u number) nAddPmu nAddSub nDropSub nGrant nRevoke nDefine nRemove nConnect nHangup nCommand nDrain nStats nPmuStats nAudit nStanding nWhoWaits = absurd (nRemove u number refl)
else_for_all (kind.Connect u) nAddPmu nAddSub nDropSub nGrant nRevoke nDefine nRemove nConnect nHangup nCommand nDrain nStats nPmuStats nAudit nStanding nWhoWaits = absurd (nConnect u refl)
else_for_all (kind.Hangup u) nAddPmu nAddSub nDropSub nGrant nRevoke nDefine nRemove nConnect nHangup nCommand nDrain nStats nPmuStats nAudit nStanding nWhoWaits = absurd (nHangup u refl)
else_for_all (kind.Command u asked) nAddPmu nAddSub nDropSub nGrant nRevoke nDefine nRemove nConnect nHangup nCommand nDrain nStats nPmuStats nAudit nStanding nWhoWaits = absurd (nCommand u asked refl)
else_for_all (kind.Drain u buf) nAddPmu nAddSub nDropSub nGrant nRevoke nDefine nRemove nConnect nHangup nCommand nDrain nStats nPmuStats nAudit nStanding nWhoWaits = absurd (nDrain u buf refl)
else_for_all (kind.Stats u) nAddPmu nAddSub nDropSub nGrant nRevoke nDefine nRemove nConnect nHangup nCommand nDrain nStats nPmuStats nAudit nStanding nWhoWaits = absurd (nStats u refl)
else_for_all (kind.PmuStats key) nAddPmu nAddSub nDropSub nGrant nRevoke nDefine nRemove nConnect nHangup nCommand nDrain nStats nPmuStats nAudit nStanding nWhoWaits = absurd (nPmuStats key refl)
else_for_all (kind.WhoWaits subs) nAddPmu nAddSub nDropSub nGrant nRevoke nDefine nRemove nConnect nHangup nCommand nDrain nStats nPmuStats nAudit nStanding nWhoWaits = absurd (nWhoWaits subs refl)
else_for_all (kind.Audit u index) nAddPmu nAddSub nDropSub nGrant nRevoke nDefine nRemove nConnect nHangup nCommand nDrain nStats nPmuStats nAudit nStanding nWhoWaits = absurd (nAudit u index refl)
else_for_all (kind.Standing u place) nAddPmu nAddSub nDropSub nGrant nRevoke nDefine nRemove nConnect nHangup nCommand nDrain nStats nPmuStats nAudit nStanding nWhoWaits = absurd (nStanding u place refl)
else_for_all (kind.DropPmu key) nAddPmu nAddSub nDropSub nGrant nRevoke nDefine nRemove nConnect nHangup nCommand nDrain nStats nPmuStats nAudit nStanding nWhoWaits = tt
else_for_all (kind.Announce config) nAddPmu nAddSub nDropSub nGrant nRevoke nDefine nRemove nConnect nHangup nCommand nDrain nStats nPmuStats nAudit nStanding nWhoWaits = tt
else_for_all (kind.Measure frame) nAddPmu nAddSub nDropSub nGrant nRevoke nDefine nRemove nConnect nHangup nCommand nDrain nStats nPmuStats nAudit nStanding nWhoWaits = tt
else_for_all (kind.Tick soc) nAddPmu nAddSub nDropSub nGrant nRevoke nDefine nRemove nConnect nHangup nCommand nDrain nStats nPmuStats nAudit nStanding nWhoWaits = tt

-- all but a drain are answered without a buffer
pub plain_answers : (e : Event) (r : Reply) → ((u : _) → (buf : _) → e ≡ kind.Drain u buf → ⊥) → posting.IsPlain r → posting.Answers e r
plain_answers (kind.Drain u buf) r none plain = absurd (none u buf refl)
plain_answers (kind.AddPmu key) r none plain = plain
plain_answers (kind.DropPmu key) r none plain = plain
plain_answers (kind.AddSub u size bytes) r none plain = plain
plain_answers (kind.DropSub u) r none plain = plain
plain_answers (kind.Grant u key) r none plain = plain
plain_answers (kind.Revoke u key) r none plain = plain
plain_answers (kind.Define u definition) r none plain = plain
plain_answers (kind.Remove u number) r none plain = plain
plain_answers (kind.Announce config) r none plain = plain
plain_answers (kind.Measure frame) r none plain = plain
plain_answers (kind.Tick soc) r none plain = plain
plain_answers (kind.Connect u) r none plain = plain
plain_answers (kind.Hangup u) r none plain = plain
plain_answers (kind.Command u asked) r none plain = plain
plain_answers (kind.Stats u) r none plain = plain
plain_answers (kind.PmuStats key) r none plain = plain
plain_answers (kind.WhoWaits subs) r none plain = plain
plain_answers (kind.Audit u index) r none plain = plain
plain_answers (kind.Standing u place) r none plain = plain
