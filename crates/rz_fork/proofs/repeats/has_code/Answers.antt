use Rattle.std.proofs.Common.{◌≡◌, ◌==◌, ◌+◌, ◌*◌, ℕ, List, refl, sym, arith, true, false}
use Rattle.std.proofs.lemmas.Bool.Decides.{nat_tests}
use Rattle.rz_core.proofs.Lists.{any_more, any_stop}
use Rattle.rz_core.specs.Numbers.{number}
use Rattle.rz_fork.specs.declared.layout.Outline.{Outline}
use Rattle.rz_fork.specs.Layout.{entries, entry_at, types_place}
use Rattle.rz_fork.proofs.Items.{get-entries}
use Rattle.rz_fork.proofs.repeats.has_code.Goals as goal

code_there : (bytes : List ℕ) (o : Outline) (place : ℕ) → (entry_at bytes o place).code ≡ number 4 bytes place
unfolding entry_at
code_there bytes o place = refl

pub returns-then-u32_at-code : goal.returns-then-u32_at-code
returns-then-u32_at-code c =
    let b = c.args.bytes.now in
    let o = c.args.outline in
    let place = types_place o + 2 + 8 * c.loop-position.position in
    let found : ((entry_at b o place).code == c.args.code) ≡ true = grind (arith, nat_tests, code_there b o place, c.u32_at.ensures) in
    sym (any_stop (λ other. other.code == c.args.code) (entries b o) c.args.count c.loop-position.position (entry_at b o place) (get-entries b o c.loop-position.position place (omega (arith, c.requires.count)) refl) (omega arith) found)

pub loop-position-preserved : goal.loop-position-preserved
loop-position-preserved c =
    let b = c.args.bytes.now in
    let o = c.args.outline in
    let place = types_place o + 2 + 8 * c.loop-position.position in
    let other : ((entry_at b o place).code == c.args.code) ≡ false = grind (arith, nat_tests, code_there b o place, c.u32_at.ensures) in
    any_more (λ other. other.code == c.args.code) (entries b o) c.loop-position.position (entry_at b o place) (get-entries b o c.loop-position.position place (omega (arith, c.requires.count)) refl) other c.loop-position.invariant
