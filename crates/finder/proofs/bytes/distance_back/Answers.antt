use Prim.Native.Nat.{◌-◌}
use mathlib.Core.Path.{◌≡◌, ◌∙◌}
use native.Mathlib.Omega.{arith}
use lib.ListN.{get_or}
use Rattle.tables.specs.ByteForms.{byte_form, role_seen}
use Rattle.tables.proofs.Agreement.{byte_role}
use Rattle.finder.proofs.Seeking.{seeking_more, seeking_takes, seeking_leaves, seeking_stops}
use Rattle.finder.proofs.bytes.distance_back.Goals.{After-role}
use Rattle.finder.proofs.bytes.distance_back.Goals as goal

told : (c : After-role) → let a = c.args in
    c.role.result ≡ role_seen ((byte_form a.form).role (get_or a.near.now (c.loop-at.at - 1) 0))
told c =
    let a = c.args in
    byte_role a.form (get_or a.near.now (c.loop-at.at - 1) 0) c.plain.result c.role.result c.plain.ensures c.role.ensures

pub returns-then-passed-length : goal.returns-then-passed-length
returns-then-passed-length c =
    omega arith ∙ seeking_takes c.loop-at.invariant c.loop-at-test.true c.role.result (told (goal.at.returns-then-passed-length c).After-role) c.in-Lead.length c.in-Lead.is (omega arith)

pub returns-in-Lead : goal.returns-in-Lead
returns-in-Lead c = omega arith ∙ seeking_leaves c.loop-at.invariant c.loop-at-test.true c.role.result (told (goal.at.returns-in-Lead c).After-role) c.in-Lead.length c.in-Lead.is (omega arith)

pub returns-in-Invalid : goal.returns-in-Invalid
returns-in-Invalid c = omega arith ∙ seeking_stops c.loop-at.invariant c.loop-at-test.true c.role.result (told (goal.at.returns-in-Invalid c).After-role) c.in-Invalid.is

pub loop-at-preserved : goal.loop-at-preserved
loop-at-preserved c =
    seeking_more c.loop-at.invariant c.loop-at-test.true c.role.result (told (goal.at.loop-at-preserved c).After-role) c.in-Trailing.is (omega arith)
