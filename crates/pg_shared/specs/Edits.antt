-- The event that an operator's edit is.
use Rattle.pg_session.specs.Events as session
use Rattle.pg_gateway.specs.declared.edit.Edit.{Edit}
use Rattle.pg_gateway.specs.declared.edit.Edit.TheVariants as edit
use Rattle.pg_gateway.specs.GatewayEvents.{GatewayEvent, add_pmu, drop_pmu, add_sub, drop_sub, grant, asks, stats, pmu_stats, audit, inquires}

-- the event that an edit is
abbrev pub edited : Edit → GatewayEvent
edited (edit.AddPmu key) = add_pmu key
edited (edit.DropPmu key) = drop_pmu key
edited (edit.AddSub u size bytes) = add_sub u size bytes
edited (edit.DropSub u) = drop_sub u
edited (edit.Grant u key) = grant u key
edited (edit.Revoke u key) = asks u (session.revoke key)
edited (edit.Define u definition) = asks u (session.define definition)
edited (edit.Remove u number) = asks u (session.remove number)
edited (edit.Stats u) = inquires (stats u)
edited (edit.PmuStats key) = inquires (pmu_stats key)
edited (edit.Audit u index) = inquires (audit u index)
