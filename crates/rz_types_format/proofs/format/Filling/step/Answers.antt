use Rattle.std.proofs.Common.{◌≡◌, ◌∷◌, [], ◌++◌, ℕ, List, false}
use Rattle.std.proofs.lemmas.Bool.{ne_eqb}
use Rattle.rz_types_format.specs.Filling.{given}
use Rattle.rz_types_format.specs.declared.format.Filling.{Filling}
use Rattle.rz_types_format.proofs.Steps.{copied}
use Rattle.rz_types_format.proofs.format.Filling.step.Goals as goal

-- a byte that is copied
goes_on : (before : Filling) (byte : ℕ) (pushed rest : List ℕ) → before.percent ≡ false → (byte ≡ 37 → ⊥) → pushed ≡ before.bytes ++ byte ∷ []
    → given before (byte ∷ rest) ≡ given (record before { bytes = pushed }) rest
goes_on before byte pushed rest none other is =
    rw (none, is) (copied before.bytes byte rest before.arguments.now (ne_eqb byte 37 other))

pub returns-in_ok-push : goal.returns-in_ok-push
returns-in_ok-push c rest = goes_on c.args.self.now c.args.byte c.push.new.self rest c.if-self.false c.if-byte-eq37.false c.in_ok-push.ensures.ok
