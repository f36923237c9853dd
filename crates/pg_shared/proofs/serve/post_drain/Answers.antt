use Rattle.std.proofs.Common.{rules, subst, ap, ◌∙◌, ◌≡◌, [], ◌∷◌, length, take}
use Rattle.pg_session.specs.Commands.{Hearing}
use Rattle.pg_session.specs.Events.{drain}
use Rattle.pg_session.specs.Private.{drain_told}
use Rattle.pg_gateway.specs.GatewayEvents.{asks, tells}
use Rattle.pg_gateway.specs.Posting.{Notes}
use Rattle.pg_gateway.proofs.Taken.{posts_asked}
use Rattle.pg_shared.proofs.Sessions.{turned_drained, bytes_drained}
use Rattle.pg_shared.proofs.serve.post_drain.Goals as goal

pub returns-clause-ran : goal.returns-clause-ran
returns-clause-ran g c =
    let v = c.args.session.now in
    let bytes = c.in-Drained.buf.items in
    let answer = tells (drain_told bytes c.in-Drained.out) in
    let sub : c.sub.result ≡ v.sub = c.sub.ensures.value ∙ ap (λ (x : Hearing). x.sub) c.take_buffer-buffer.ensures.state in
    let len : length c.take_buffer-buffer.result.items ≡ v.buffer = search rules in
    let given = posts_asked (g.G.Gate.takes c.args.gate.now) (g.met.G.Gate.frames c.args.gate.now) c.sub.result (drain (length c.take_buffer-buffer.result.items)) answer _ _ c.in-Drained.ensures.posted in
    let posted = subst (λ n. Notes (g.G.Gate.posts c.args.gate.now) (g.G.Gate.posts c.post.new.self) ((asks v.sub (drain n), answer) ∷ [])) len
    (subst (λ u. Notes (g.G.Gate.posts c.args.gate.now) (g.G.Gate.posts c.post.new.self) ((asks u (drain (length c.take_buffer-buffer.result.items)), answer) ∷ [])) sub given) in
    let left = ap (λ (x : Hearing). x.left) c.put_drained.ensures.state ∙ ap (λ n. take n bytes) c.handed_size.ensures ∙ bytes_drained bytes c.in-Drained.out in
    let same : c.put_drained.new.self ≡ record v { left = c.put_drained.new.self.left } = search rules in
    λ r w due waited is. turned_drained due waited v c.put_drained.new.self r w _ _ answer is c.requires.given c.requires.whole c.requires.left left posted same
