-- Which fronts of tokens can be expressions, whatever the levels of their operators.
use Rattle.std.specs.Prelude.{◌≡◌, ℕ, ◌≤◌, Bool, true, false, ◌&&◌, List, [], ◌∷◌, ◌++◌, Option, Some, None}
use Rattle.rz_core.specs.declared.resource.Word.{Word}
use Rattle.rz_lex.specs.declared.token.Token.{Token}
use Rattle.rz_expr.specs.declared.expr.BinaryOp.{BinaryOp}
use Rattle.rz_expr.specs.declared.operators.Frame.{Frame}
use Rattle.rz_expr.specs.declared.operators.Frame.TheVariants.{Group, InIndex, InStart, InWidth}
use Rattle.rz_words.specs.declared.words.Function.{Function}
use Rattle.rz_words.specs.declared.words.Function.TheVariants.{CountOf, ArrayIndex, BitField, Data}
use Rattle.rz_expr.specs.Grammar.{Start, Operand, Label, Prefix, Bracket, Calls, NoStart, After, Operates, Closes, Separates, Indexes, EndsIndex, start_of, after_of, level_of, argument, closes, separates, Derives, operand, labelled, indexed, prefixed, grouped, counted, numbered, data_at, bits_at, tighter, binary}
use Rattle.rz_expr.specs.Term.{Term}

-- one answer of each kind: with an operand read, which is a label or none, an operand wanted, an operand wanted in a
-- bracket, a function's name
abbrev pub started : Start → (Bool → Bool) → Bool → Bool → (Function → Bool) → Bool
started (Operand e) have want bracket call = have false
started (Label name) have want bracket call = have true
started (Prefix op) have want bracket call = want
started Bracket have want bracket call = bracket
started (Calls function) have want bracket call = call function
started NoStart have want bracket call = false

-- what is answered after a function's name
abbrev pub named : Function → Option Word → Bool → Bool → Bool
named function None have want = false
named CountOf (Some word) have want = have
named ArrayIndex (Some word) have want = have
named (Data width) (Some word) have want = have
named BitField (Some word) have want = want

abbrev pub ends_index : After → Bool
ends_index EndsIndex = true
ends_index other = false

-- the token ends what is open
abbrev pub ends : Frame → After → Bool
ends Group after = closes after
ends InWidth after = closes after
ends InStart after = separates after
ends InIndex after = ends_index after

-- one answer of each kind: an operand wanted, what is answered inside the frames below, after a width, a bracket or an
-- index, and after a start, and an index wanted
abbrev pub went_on : After → List Frame → Bool → (List Frame → Bool) → (List Frame → Bool) → Bool → Bool
went_on (Operates op) frames want close separate index = want
went_on Closes (Group ∷ frames) want close separate index = close frames
went_on Closes (InWidth ∷ frames) want close separate index = close frames
went_on Separates (InStart ∷ frames) want close separate index = separate frames
went_on Indexes frames want close separate index = index
went_on EndsIndex (InIndex ∷ frames) want close separate index = close frames
went_on other frames want close separate index = false

abbrev pub nothing_open : List Frame → Bool
nothing_open [] = true
nothing_open (frame ∷ frames) = false

-- the tokens complete an expression inside these frames: where an operand is wanted; after one, which is a label by
-- itself or not; and after a function
abbrev mutual
  pub wants : List Token → List Frame → Bool
  wants [] frames = false
  wants (t ∷ ts) frames = started (start_of t.shape) (λ label. haves label ts frames) (wants ts frames) (wants ts (Group ∷ frames)) (λ function. calls function ts frames)

  pub haves : Bool → List Token → List Frame → Bool
  haves label [] frames = nothing_open frames
  haves label (t ∷ ts) frames = went_on (after_of t.shape) frames (wants ts frames) (λ below. haves false ts below) (λ below. wants ts (InWidth ∷ below)) (label && wants ts (InIndex ∷ frames))

  pub calls : Function → List Token → List Frame → Bool
  calls function [] frames = false
  calls function (a ∷ []) frames = false
  calls function (a ∷ b ∷ []) frames = false
  calls function (a ∷ b ∷ c ∷ ts) frames = named function (argument function (a ∷ b ∷ c ∷ [])) (haves false ts frames) (wants ts (InStart ∷ frames))

-- no front completes an expression
abbrev pub NoneBegins : List Token → Type 0
NoneBegins ts = (front left : List Token) → ts ≡ front ++ left → wants front [] ≡ true → ⊥

-- no front completes what is open
abbrev pub NoneEnds : Frame → List Token → Type 0
NoneEnds frame ts = (front left : List Token) (below : List Frame) → ts ≡ front ++ left → wants front (frame ∷ below) ≡ true → ⊥

-- its last operand is a label by itself, in no brackets
abbrev pub ends_labelled : {level : ℕ} {ts : List Token} {e : Term} → Derives level ts e → Bool
ends_labelled (operand is) = false
ends_labelled (labelled is) = true
ends_labelled (indexed bracket close is begins d closes) = false
ends_labelled (prefixed is d) = ends_labelled d
ends_labelled (grouped close is d closes) = false
ends_labelled (counted is name) = false
ends_labelled (numbered is name) = false
ends_labelled (data_at is name) = false
ends_labelled (bits_at comma close is name start separates width closes) = false
ends_labelled (tighter d) = ends_labelled d
ends_labelled (binary xs ys t is at left right) = ends_labelled right

-- after an operator of at most this level no operand begins, and after a label no index
pub record Stops (level : ℕ) (label : Bool) (ts : List Token) : Type 0 where
  pub operator : (t : Token) (rest : List Token) (op : BinaryOp) → ts ≡ t ∷ rest → after_of t.shape ≡ Operates op → level_of op ≤ level → NoneBegins rest
  pub index : (t : Token) (rest : List Token) → label ≡ true → ts ≡ t ∷ rest → after_of t.shape ≡ Indexes → NoneEnds InIndex rest

-- a front is this expression of a level, which goes no further than to the rest
pub record Reads (level : ℕ) (ts rest : List Token) (e : Term) : Type 0 where
  pub front : List Token
  pub whole : ts ≡ front ++ rest
  pub derives : Derives level front e
  pub stops : Stops level (ends_labelled derives) rest
