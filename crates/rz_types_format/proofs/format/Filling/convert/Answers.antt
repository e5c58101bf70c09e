use Rattle.std.proofs.Common.{◌≡◌, ◌∷◌, [], ◌++◌, ℕ, List, Some, ap, ◌∙◌, sym}
use Rattle.std.proofs.lemmas.Bool.{ne_eqb}
use Rattle.std.specs.Fmt.{◌++?◌}
use Rattle.rz_types_format.specs.Format.{formatted, converted}
use Rattle.rz_types_format.specs.declared.format.Argument.{Argument}
use Rattle.rz_types_format.proofs.Steps.{conversion, percent_sign}
use Rattle.rz_types_format.proofs.format.Filling.convert.Goals as goal

-- a percent sign
one_percent : (bytes pushed : List ℕ) (letter : ℕ) (rest : List ℕ) (arguments : List Argument) → letter ≡ 37 → pushed ≡ bytes ++ letter ∷ []
    → Some bytes ++? formatted (37 ∷ letter ∷ rest) arguments ≡ Some pushed ++? formatted rest arguments
one_percent bytes pushed letter rest arguments sign is = rw (is, sign) (percent_sign bytes rest arguments)

-- a conversion, and the argument that it takes
one_conversion : (bytes appended given : List ℕ) (letter : ℕ) (rest : List ℕ) (all : List Argument) (argument : Argument) (others : List Argument)
    → all ≡ argument ∷ others → (letter ≡ 37 → ⊥) → Some given ≡ converted letter argument → appended ≡ bytes ++ given
    → Some bytes ++? formatted (37 ∷ letter ∷ rest) all ≡ Some appended ++? formatted rest others
one_conversion bytes appended given letter rest all argument others first other is joined =
    rw (joined, first) (conversion bytes letter rest given argument others (ne_eqb letter 37 other) is)

pub returns-then-letter-eq37 : goal.returns-then-letter-eq37
returns-then-letter-eq37 c rest =
    one_percent c.args.self.now.bytes c.push.new.self c.args.letter rest c.args.self.now.arguments.now c.if-letter-eq37.true c.in_ok-push.ensures.ok

pub returns : goal.returns
returns c rest =
    one_conversion c.args.self.now.bytes c.append.new.self c.as_slice.result.now c.args.letter rest c.args.self.now.arguments.now
    c.in-Some.argument.now c.in-Some.others.now c.in-Some.ensures.cases.0 c.if-letter-eq37.false
    (ap (λ (given : List ℕ). Some given) c.as_slice.ensures ∙ sym c.in-Some-2.is ∙ c.in_ok-bytes.ensures) c.in_ok-append.ensures.ok
