use Rattle.std.proofs.Common.{◌≡◌, ◌+◌, ◌-◌, ◌∙◌, ◌++◌, refl, sym, ap, length, replicate, arith}
use Rattle.pg_wire.specs.Heads.{start_of}
use Rattle.pg_wire.specs.Stream.{joined}
use Rattle.pg_config.proofs.Copying.{framed}
use Rattle.pg_outcfg.specs.Ordered.{blocks_in, pieces_in}
use Rattle.pg_outcfg.specs.Quality.{joined_quality}
use Rattle.pg_outcfg.specs.Frames.{data_heading, data_blocks, qualities_of}
use Rattle.pg_outcfg.proofs.Ordered.{blocks-ordered, qualities-ordered}
use Rattle.pg_outcfg.proofs.Stamping.{started}
use Rattle.pg_outcfg.proofs.data.compose_at_once.Goals as goal

pub returns-clause-frame : goal.returns-clause-frame
returns-clause-frame c ends listed are =
    let d = c.args.definition.now in
    let m = c.args.frame.now in
    let order = c.args.order.now in
    let places = length m.config.parts in
    let others = length order - 1 in
    let long = c.in-Some-add_ordered.ensures.len refl in
    let whole : c.args.prefix.now.size ≡ 16 + length (joined (blocks_in m order)) = omega (arith, long, c.in-Some.ensures.len refl, c.size.ensures.value, c.end_if_whole.ensures.len ends) in
    let some : length order ≡ others + 1 = omega (arith, c.requires.members, c.requires.limits.members.some) in
    let body = joined (data_blocks listed d.members (pieces_in m order)) in
    let same : body ≡ joined (blocks_in m order) = ap joined (blocks-ordered listed d.members m places order are c.requires.blocks c.requires.members) in
    let quality = joined_quality (qualities_of (pieces_in m order)) in
    let clear : c.clear_quality-quality.result ≡ quality =
    c.clear_quality-quality.ensures others ∙ ap (λ v. joined_quality (replicate (others + 1) v.quality)) c.frame.view_is
    ∙ sym (ap joined_quality (qualities-ordered m places others order c.requires.blocks some)) in
    framed (data_heading d c.args.slot quality) c.args.prefix.now.size body c.start_stamped.new.frame.items c.add_ordered.new.out.items c.end_if_whole.new.frame.items
    (c.in-Some.ensures.bytes refl ∙ started d c.args.slot c.clear_quality-quality.result c.args.prefix.now _ c.requires.prefix c.stamp_of-stamp.ensures.bytes ∙ ap (λ q. start_of (data_heading d c.args.slot q) c.args.prefix.now.size) clear)
    (whole ∙ ap (λ l. 16 + length l) (sym same))
    (c.in-Some-add_ordered.ensures.bytes refl ∙ ap (λ l. c.start_stamped.new.frame.items ++ l) (sym same))
    (c.end_if_whole.ensures.bytes ends)
