use Rattle.std.proofs.Common.{◌≡◌, ◌+◌, ◌∙◌, ◌++◌, refl, ap, length, arith}
use Rattle.pg_wire.specs.Heads.{start_of}
use Rattle.pg_wire.specs.Stream.{joined}
use Rattle.pg_config.proofs.Copying.{framed}
use Rattle.pg_outcfg.specs.Quality.{joined_quality}
use Rattle.pg_outcfg.specs.Frames.{data_heading, data_blocks, qualities_of}
use Rattle.pg_outcfg.proofs.Stamping.{started}
use Rattle.pg_outcfg.proofs.data.compose.Goals as goal

pub returns-clause-frame : goal.returns-clause-frame
returns-clause-frame c ends =
    let d = c.args.definition.now in
    let body = joined (data_blocks c.args.listed.now d.members c.args.parts.now) in
    let members = ap (λ ms. joined (data_blocks c.args.listed.now ms c.args.parts.now)) c.as_slice-members.ensures.value in
    let quality = joined_quality (qualities_of c.args.parts.now) in
    let long = c.in-Some-add_blocks.ensures.len refl in
    let whole : c.args.prefix.now.size ≡ 16 + length (joined (data_blocks c.args.listed.now c.as_slice-members.result.now c.args.parts.now)) = omega (arith, long, c.in-Some.ensures.len refl, c.size.ensures.value, c.end_if_whole.ensures.len ends) in
    framed (data_heading d c.args.slot quality) c.args.prefix.now.size body c.start_stamped.new.frame.items c.add_blocks.new.frame.items c.end_if_whole.new.frame.items
    (c.in-Some.ensures.bytes refl ∙ started d c.args.slot c.join_qualities-quality.result c.args.prefix.now _ c.requires.prefix c.stamp_of-stamp.ensures.bytes ∙ ap (λ q. start_of (data_heading d c.args.slot q) c.args.prefix.now.size) c.join_qualities-quality.ensures)
    (whole ∙ ap (λ l. 16 + length l) members)
    (c.in-Some-add_blocks.ensures.bytes refl ∙ ap (λ l. c.start_stamped.new.frame.items ++ l) members)
    (c.end_if_whole.ensures.bytes ends)
