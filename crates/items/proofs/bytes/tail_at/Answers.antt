use Prim.Native.Nat.{◌+◌, ◌*◌, ◌-◌, ◌^◌, ◌≤◌}
use mathlib.Core.Path.{◌≡◌}
use native.Mathlib.Nat.{add_assoc}
use native.Mathlib.Omega.{arith}
use lib.ListN.{get_or}
use borrow.Author.Rules.{rules}
use Rattle.laws.proofs.Digits.{IsDigit}
use Rattle.tables.specs.ByteForms.{byte_form, layout_of, plain_of, role_seen}
use Rattle.tables.proofs.Agreement.{byte_role}
use Rattle.items.proofs.Tails.{bytes_fit, bytes_end, bytes_other, bytes_digit, bytes_more}
use Rattle.items.proofs.bytes.tail_at.Goals.{After-role, After-from, In-Trailing}
use Rattle.items.proofs.bytes.tail_at.Goals as goal

told : (c : After-role) → let a = c.args in
    c.role.result ≡ role_seen ((byte_form a.form).role (get_or a.text.now (c.args.from + c.loop-count.count) 0))
told c =
    let a = c.args in
    byte_role a.form (get_or a.text.now (c.args.from + c.loop-count.count) 0) c.plain-plain.result c.role.result c.plain-plain.ensures c.role.ensures

room : (c : In-Trailing) → c.loop-count.value * c.radix-radix.result + c.radix-radix.result ≤ 2 ^ 31
room c =
    let a = c.args in
    let l = c.loop-count in
    bytes_fit a.form a.text.now a.from a.asked a.lead l.count (a.from + l.count) l.value l.invariant
    c.radix-radix.result c.radix-radix.ensures c.loop-count-test.true

bits : (c : After-from) → c.from.result
    ≡ plain_of c.args.form (get_or c.args.text.now (c.args.from + c.loop-count.count) 0)
    - (layout_of c.args.form).low
bits c =
    omega (arith, c.from.ensures, c.plain-plain.ensures, c.first_trailing-low.ensures)

pub returns-then-text-at : goal.returns-then-text-at
returns-then-text-at c = let l = c.loop-count in
    let a = c.args in
    bytes_end a.form a.text.now a.from a.asked a.lead l.count (a.from + l.count) l.value l.invariant c.if-text-at.true

pub returns-in_default : goal.returns-in_default
returns-in_default c = let l = c.loop-count in
    let a = c.args in
    bytes_other a.form a.text.now a.from a.asked a.lead l.count (a.from + l.count) l.value l.invariant c.if-text-at.false
    c.role.result (told (goal.at.returns-in_default c).After-role) (search rules)

pub overflow_mul-value : goal.overflow_mul-value
overflow_mul-value c = omega (arith, (room (goal.at.overflow_mul-value c).In-Trailing))

pub overflow_add-value : goal.overflow_add-value
overflow_add-value c =
    let digit : IsDigit (layout_of c.args.form).low (layout_of c.args.form).radix (plain_of c.args.form (get_or c.args.text.now (c.args.from + c.loop-count.count) 0)) =
    let a = c.args in
    let l = c.loop-count in
    bytes_digit a.form a.text.now a.from a.asked a.lead l.count (a.from + l.count) l.value l.invariant c.if-text-at.false
    c.role.result (told (goal.at.overflow_add-value c).After-role) c.in-Trailing.is in
    omega (arith, (room (goal.at.overflow_add-value c).In-Trailing), digit, (bits (goal.at.overflow_add-value c).After-from), c.radix-radix.ensures)

pub loop-count-preserved : goal.loop-count-preserved
loop-count-preserved c = let a = c.args in
    let l = c.loop-count in
    rw (add_assoc a.from l.count 1) at
    (bytes_more a.form a.text.now a.from a.asked a.lead l.count (a.from + l.count) l.value l.invariant c.if-text-at.false
    c.role.result (told (goal.at.loop-count-preserved c).After-role) c.in-Trailing.is c.loop-count-test.true
    c.radix-radix.result c.from.result c.radix-radix.ensures (bits (goal.at.loop-count-preserved c).After-from))
