use native.Mathlib.Omega.{arith}
use Prim.Native.Nat.{◌-◌}
use mathlib.Core.Path.{◌≡◌, sym, ◌∙◌}
use lib.ListN.{get_or}
use Rattle.forms.specs.Layout.{row_at}
use Rattle.tables.specs.ByteForms.{byte_form, layout_of, plain_of, role_seen}
use Rattle.tables.proofs.Agreement.{byte_role}
use Rattle.items.proofs.ByteItems.{count_most, missing, too_long, no_character_lem, whole-character}
use Rattle.items.proofs.bytes.item_at.Goals.{After-role, After-from-lead}
use Rattle.items.proofs.bytes.item_at.Goals as goal

told : (c : After-role) → c.role.result ≡ role_seen ((byte_form c.args.form).role (get_or c.args.text.now c.args.at 0))
told c =
    byte_role c.args.form (get_or c.args.text.now c.args.at 0) c.plain-plain.result c.role.result c.plain-plain.ensures c.role.ensures

own : (c : After-from-lead) → c.from-lead.result ≡ plain_of c.args.form (get_or c.args.text.now c.args.at 0) - (row_at (layout_of c.args.form) (c.in-Lead.length - 1)).first
own c =
    omega (arith, c.from-lead.ensures, c.lead_base.ensures, c.plain-plain.ensures)

pub overflow_add-span : goal.overflow_add-span
overflow_add-span c = omega (
  arith,
  count_most c.args.form c.args.text.now c.args.at c.role.result (told (goal.at.overflow_add-span c).After-role) c.in-Lead.length c.in-Lead.is
      c.from-lead.result c.tail_at-count.result.count c.tail_at-count.result.value (own (goal.at.overflow_add-span c).After-from-lead) c.tail_at-count.ensures,
)

pub returns-then-count-asked : goal.returns-then-count-asked
returns-then-count-asked c = missing c.args.form c.args.text.now c.args.at c.role.result (told (goal.at.returns-then-count-asked c).After-role) c.in-Lead.length c.in-Lead.is
    c.from-lead.result c.tail_at-count.result.count c.tail_at-count.result.value (own (goal.at.returns-then-count-asked c).After-from-lead) c.tail_at-count.ensures c.if-count-asked.true

pub returns-then-value-lowest : goal.returns-then-value-lowest
returns-then-value-lowest c = too_long c.args.form c.args.text.now c.args.at c.role.result (told (goal.at.returns-then-value-lowest c).After-role) c.in-Lead.length c.in-Lead.is
    c.from-lead.result c.tail_at-count.result.count c.tail_at-count.result.value (own (goal.at.returns-then-value-lowest c).After-from-lead) c.tail_at-count.ensures c.if-count-asked.false
    (rw c.lowest.ensures at c.if-value-lowest.true)

pub returns-then-is_surrogate : goal.returns-then-is_surrogate
returns-then-is_surrogate c = no_character_lem c.args.form c.args.text.now c.args.at c.role.result (told (goal.at.returns-then-is_surrogate c).After-role) c.in-Lead.length c.in-Lead.is
    c.from-lead.result c.tail_at-count.result.count c.tail_at-count.result.value (own (goal.at.returns-then-is_surrogate c).After-from-lead) c.tail_at-count.ensures c.if-count-asked.false
    (rw c.lowest.ensures at c.if-value-lowest.false) (sym c.is_surrogate.ensures ∙ c.if-is_surrogate.true)

pub returns : goal.returns
returns c = whole-character c.args.form c.args.text.now c.args.at c.role.result (told (goal.at.returns c).After-role) c.in-Lead.length c.in-Lead.is
    c.from-lead.result c.tail_at-count.result.count c.tail_at-count.result.value (own (goal.at.returns c).After-from-lead) c.tail_at-count.ensures c.if-count-asked.false
    (rw c.lowest.ensures at c.if-value-lowest.false) (sym c.is_surrogate.ensures ∙ c.if-is_surrogate.false)
