use Rattle.pg_laws.proofs.service.link_at.Goals as goal

pub returns-clause-tells : goal.returns-clause-tells
returns-clause-tells g c = c.links_tell_on.ensures.call _ _ _ _ _ _ _ _ _ _ c.run_link.ensures.call c.run_link.ensures.onward
