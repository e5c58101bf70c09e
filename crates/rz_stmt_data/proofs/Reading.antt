-- Parts of a text, and arguments, one more at a time.
use Rattle.std.proofs.Common.{◌≡◌, ◌≢◌, ℕ, ◌+◌, ◌<◌, ◌≤◌, Bor, List, [], ◌∷◌, ◌++◌, drop, get_or, length, map, refl, sym, ap, subst, ◌∙◌, append_assoc, arith}
use Rattle.std.proofs.lemmas.List.{append-nil, at_drop_more}
use Rattle.std.specs.Prelude.{max}
use Rattle.rz_stmt_brackets.proofs.Short.{bracket_sizes, cut_short, no_longer, AreShort}
use Rattle.rz_stmt_brackets.specs.Pieces.{AreCut}
use Rattle.rz_stmt_brackets.specs.declared.bracket.Bracket.TheVariants.{Round}
use Rattle.rz_stmt_brackets.specs.declared.pieces.Divider.TheVariants.{Comma}
use Rattle.rz_types_fields.specs.Text.{PlainArgument, PlainPart}
use Rattle.rz_lex.specs.declared.token.Token.{Token}
use Rattle.rz_stmt_data.proofs.OneText.{front_some, same_behind}
use Rattle.rz_stmt_data.specs.Texts.{alone, called, no_argument, no_part, one_argument, one_part, AreArguments, AreParts, IsArgument, IsFront}

-- Pieces, as the code lends them.

-- the tokens of each piece
abbrev pub now_of : List (Bor (List Token)) → List (List Token)
now_of pieces = map (λ piece. piece.now) pieces

-- the next piece, and those after it
pub piece_next : (pieces : List (Bor (List Token))) (i : ℕ) (piece : Bor (List Token)) → i < length pieces → piece ≡ get_or pieces i piece
    → now_of (drop i pieces) ≡ piece.now ∷ now_of (drop (i + 1) pieces)
piece_next pieces i piece less item =
    at_drop_more now_of pieces i piece less ∙ ap (λ (p : Bor (List Token)). p.now ∷ now_of (drop (i + 1) pieces)) (sym item)

-- three pieces are those at their places
pub only_three : (pieces : List (Bor (List Token))) (a b c : Bor (List Token)) → 3 ≤ length pieces → length pieces < 4
    → a ≡ get_or pieces 0 a → b ≡ get_or pieces 1 b → c ≡ get_or pieces 2 c → now_of pieces ≡ a.now ∷ b.now ∷ c.now ∷ []
only_three [] a b c some few is_a is_b is_c = absurd (omega (arith, some))
only_three (x ∷ []) a b c some few is_a is_b is_c = absurd (omega (arith, some))
only_three (x ∷ y ∷ []) a b c some few is_a is_b is_c = absurd (omega (arith, some))
only_three (x ∷ y ∷ z ∷ []) a b c some few is_a is_b is_c = λ i. (sym is_a i).now ∷ (sym is_b i).now ∷ (sym is_c i).now ∷ []
only_three (x ∷ y ∷ z ∷ w ∷ others) a b c some few is_a is_b is_c = absurd (omega (arith, few))

-- Parts.

-- whatever parts the rest is, all are those so far and they; and where all are parts, so is the rest
pub record Leads (all rest : List Token) (so_far : List PlainPart) : Type 0 where
  pub forth : (more : List PlainPart) → AreParts rest more → AreParts all (so_far ++ more)
  pub back : (parts : List PlainPart) → AreParts all parts → (more : List PlainPart) × AreParts rest more

pub leads_first : (all : List Token) → Leads all all []
leads_first all = record { forth = λ more are. are; back = λ parts are. (parts, are) }

-- the parts after the first
behind_first : (tokens behind : List Token) (part : PlainPart) (parts : List PlainPart) → IsFront tokens part behind → AreParts tokens parts
    → (others : List PlainPart) × AreParts behind others
behind_first tokens behind part parts is no_part = absurd (front_some [] part behind is refl)
behind_first tokens behind part parts is (one_part same other another others also are) =
    (others, subst (λ (ts : List Token). AreParts ts others) (same_behind tokens another part other behind also is) are)

pub leads_more : (all rest behind : List Token) (so_far after : List PlainPart) (part : PlainPart) → Leads all rest so_far → IsFront rest part behind
    → after ≡ so_far ++ part ∷ [] → Leads all behind after
leads_more all rest behind so_far after part leads is pushed = subst (Leads all behind) (sym pushed) (record {
  forth = λ more are. subst (AreParts all) (sym (append_assoc so_far (part ∷ []) more)) (leads.forth (part ∷ more) (one_part rest behind part more is are));
  back = λ parts are. let found = leads.back parts are in behind_first rest behind part found.0 is found.1;
})

none_begin : (rest : List Token) (more : List PlainPart) → rest ≢ [] → ((part : PlainPart) (behind : List Token) → IsFront rest part behind → ⊥) → AreParts rest more → ⊥
none_begin rest more some never no_part = some refl
none_begin rest more some never (one_part same behind part others is are) = never part behind is

-- the rest is no parts, where none stands at its front
pub leads_nowhere : (all rest : List Token) (so_far : List PlainPart) → Leads all rest so_far → rest ≢ []
    → ((part : PlainPart) (behind : List Token) → IsFront rest part behind → ⊥) → (parts : List PlainPart) → AreParts all parts → ⊥
leads_nowhere all rest so_far leads some never parts are = let found = leads.back parts are in none_begin rest found.0 some never found.1

pub leads_all : (all rest : List Token) (so_far : List PlainPart) → Leads all rest so_far → rest ≡ [] → AreParts all so_far
leads_all all rest so_far leads none =
    subst (AreParts all) (append-nil so_far) (leads.forth [] (subst (λ (ts : List Token). AreParts ts []) (sym none) no_part))

pub front_shorter : (tokens : List Token) (part : PlainPart) (behind : List Token) → IsFront tokens part behind → length behind < length tokens
front_shorter tokens part behind (alone token rest same is) = omega arith
front_shorter tokens part behind (called word rest call parted same has brackets so) = omega (arith, bracket_sizes Round rest parted brackets)

-- Arguments.

pub record LeadsOn (all rest : List (List Token)) (so_far : List PlainArgument) : Type 0 where
  pub forth : (more : List PlainArgument) → AreArguments rest more → AreArguments all (so_far ++ more)
  pub back : (arguments : List PlainArgument) → AreArguments all arguments → (more : List PlainArgument) × AreArguments rest more

pub leads_on_first : (all : List (List Token)) → LeadsOn all all []
leads_on_first all = record { forth = λ more are. are; back = λ arguments are. (arguments, are) }

-- the first argument, and the others
first_apart : (piece : List Token) (pieces : List (List Token)) (arguments : List PlainArgument) → AreArguments (piece ∷ pieces) arguments
    → (argument : PlainArgument) × (others : List PlainArgument) × IsArgument piece argument × AreArguments pieces others
first_apart piece pieces arguments (one_argument same rest argument others is are) = (argument, others, is, are)

module _ (all rest behind : List (List Token)) (so_far : List PlainArgument) (piece : List Token) (leads : LeadsOn all rest so_far) (here : rest ≡ piece ∷ behind) where
  split : (arguments : List PlainArgument) → AreArguments all arguments
      → (argument : PlainArgument) × (others : List PlainArgument) × IsArgument piece argument × AreArguments behind others
  split arguments are =
      let found = leads.back arguments are in
      first_apart piece behind found.0 (subst (λ (ps : List (List Token)). AreArguments ps found.0) here found.1)

  pub leads_on_more : (argument : PlainArgument) (after : List PlainArgument) → IsArgument piece argument → after ≡ so_far ++ argument ∷ [] → LeadsOn all behind after
  leads_on_more argument after is pushed = subst (LeadsOn all behind) (sym pushed) (record {
    forth = λ more are. subst (AreArguments all) (sym (append_assoc so_far (argument ∷ []) more))
        (leads.forth (argument ∷ more) (subst (λ (ps : List (List Token)). AreArguments ps (argument ∷ more)) (sym here) (one_argument piece behind argument more is are)));
    back = λ arguments are. let it = split arguments are in (it.1, it.3);
  })

  pub leads_on_nowhere : ((argument : PlainArgument) → IsArgument piece argument → ⊥) → (arguments : List PlainArgument) → AreArguments all arguments → ⊥
  leads_on_nowhere never arguments are = let it = split arguments are in never it.0 it.2

pub leads_on_all : (all rest : List (List Token)) (so_far : List PlainArgument) → LeadsOn all rest so_far → rest ≡ [] → AreArguments all so_far
leads_on_all all rest so_far leads none =
    subst (AreArguments all) (append-nil so_far) (leads.forth [] (subst (λ (ps : List (List Token)). AreArguments ps []) (sym none) no_argument))

-- How long they are.

-- the length of the longest piece
abbrev pub longest : List (List Token) → ℕ
longest [] = 0
longest (piece ∷ pieces) = max (length piece) (longest pieces)

pub longest_short : (size : ℕ) (pieces : List (List Token)) → AreShort size pieces → longest pieces ≤ size
longest_short size [] are = omega arith
longest_short size (piece ∷ pieces) are = omega (arith, are.0, longest_short size pieces are.1)

pub short_longest : (pieces : List (List Token)) → AreShort (longest pieces) pieces
short_longest [] = tt
short_longest (piece ∷ pieces) = (omega arith, no_longer (longest pieces) (longest (piece ∷ pieces)) pieces (omega arith) (short_longest pieces))

first_short : (size : ℕ) (piece : List Token) (pieces : List (List Token)) → AreShort size (piece ∷ pieces) → length piece ≤ size
first_short size piece pieces are = are.0

others_short : (size : ℕ) (piece : List Token) (pieces : List (List Token)) → AreShort size (piece ∷ pieces) → AreShort size pieces
others_short size piece pieces are = are.1

-- the pieces after the first
pub arguments_short : (tokens said : List Token) (others pieces : List (List Token)) → AreCut Comma tokens pieces → pieces ≡ said ∷ others → longest others ≤ length tokens
arguments_short tokens said others pieces cut are =
    longest_short (length tokens) others
    (others_short (length tokens) said others (cut_short Comma tokens (said ∷ others) (subst (AreCut Comma tokens) are cut)))

-- the last of three pieces
pub asked_short : (tokens file kind asked : List Token) (pieces : List (List Token)) → AreCut Comma tokens pieces → pieces ≡ file ∷ kind ∷ asked ∷ [] → length asked ≤ length tokens
asked_short tokens file kind asked pieces cut are =
    let all = cut_short Comma tokens (file ∷ kind ∷ asked ∷ []) (subst (AreCut Comma tokens) are cut) in
    first_short (length tokens) asked []
    (others_short (length tokens) kind (asked ∷ []) (others_short (length tokens) file (kind ∷ asked ∷ []) all))
