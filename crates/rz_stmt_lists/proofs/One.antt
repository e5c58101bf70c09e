-- Tokens are one statement of each kind at most.
use Rattle.std.proofs.Common.{◌≡◌, ℕ, Bool, true, false, List, [], ◌∷◌, Option, Some, None, refl, sym, ap, subst, ◌∙◌}
use Rattle.rz_core.proofs.Tests.{same_some}
use Rattle.rz_stmt_brackets.proofs.OneBracket.{one_bracketed}
use Rattle.rz_stmt_brackets.specs.Bracket.{IsBracketed}
use Rattle.rz_stmt_brackets.specs.Kind.{kind_in}
use Rattle.rz_stmt_brackets.specs.Pieces.{Parted}
use Rattle.rz_stmt_brackets.specs.Statements.{is_empty}
use Rattle.rz_stmt_brackets.specs.declared.bracket.Bracket.TheVariants.{Round}
use Rattle.rz_stmt_data.specs.declared.head.Subject.TheVariants.{New}
use Rattle.rz_expr.proofs.OneTerm.{OneExpression}
use Rattle.rz_expr.specs.Keyword.{is_keyword}
use Rattle.rz_words.specs.declared.keyword.Keyword.TheVariants as keywords
use Rattle.rz_lex.specs.declared.token.Token.{Token}
use Rattle.rz_stmt_lists.proofs.Apart.{include_after}
use Rattle.rz_stmt_lists.proofs.Clauses.{one_clause}
use Rattle.rz_stmt_lists.proofs.Maybes.{one_maybe}
use Rattle.rz_stmt_lists.proofs.Parts.{ended, none_here, nothing_there, of_type_back, others_back, part_no_text}
use Rattle.rz_stmt_lists.proofs.Picks.{one_pick}
use Rattle.rz_stmt_lists.proofs.Renamings.{one_head_in, one_renaming}
use Rattle.rz_stmt_data.proofs.FileNames.{file_found}
use Rattle.rz_stmt_data.proofs.InFront.{one_typed}
use Rattle.rz_stmt_data.specs.Typed.{IsTyped, Typed}
use Rattle.rz_stmt_data.specs.Files.{file_in}
use Rattle.rz_stmt_lists.proofs.Texts.{named_so}
use Rattle.rz_stmt_lists.specs.Clause.{Clause}
use Rattle.rz_stmt_lists.specs.Change.{Change, IsChange}
use Rattle.rz_stmt_lists.specs.Delete.{Delete, IsDelete}
use Rattle.rz_stmt_lists.specs.Include.{Include, IsInclude, IsPart, Not, Part, Renamed}
use Rattle.rz_stmt_lists.specs.Pick.{IsPicked, Pick}
use Rattle.rz_stmt_lists.specs.Read.{IsNamed, IsRead, Read}
use Rattle.rz_stmt_lists.specs.Renaming.{IsHeadIn, IsRenaming, Renaming}
use Rattle.rz_stmt_lists.specs.Steps.{IsGoneOn, IsOfType, IsOthers}

-- the brackets of a `read` statement stand after its type
pub read_brackets : (tokens : List Token) (read : Read) (is : IsRead tokens read) (typed : Typed) → IsTyped keywords.Read tokens typed → IsBracketed Round typed.behind is.parted
read_brackets tokens read is typed also = subst (λ (t : Typed). IsBracketed Round t.behind is.parted) (one_typed keywords.Read tokens _ typed is.typed also) is.in_brackets

kinds : (x y : Token) (a b : ℕ) → x ≡ y → kind_in x.shape ≡ Some a → kind_in y.shape ≡ Some b → a ≡ b
kinds x y a b same is also = same_some (kind_in y.shape) a b (ap (λ (t : Token). kind_in t.shape) (sym same) ∙ is) also

module _ (one : OneExpression) where
  pub one_deleted : (tokens : List Token) (a b : Delete) → IsDelete tokens a → IsDelete tokens b → a ≡ b
  one_deleted tokens a b is also =
      let same = one_clause keywords.Delete tokens _ _ is.clause also.clause in
      let pick = one_pick one also.inside a.pick b.pick (subst (λ (c : Clause). IsPicked c.inside a.pick) same is.has_pick) also.has_pick in
      λ i. record { kind = (same i).kind; pick = pick i }

  pub one_changed : (tokens : List Token) (a b : Change) → IsChange tokens a → IsChange tokens b → a ≡ b
  one_changed tokens a b is also =
      let same = one_clause keywords.Change tokens _ _ is.clause also.clause in
      let pick : a.pick ≡ b.pick = one_pick one also.inside a.pick b.pick (subst (λ (c : Clause). IsPicked c.inside a.pick) same is.has_pick) also.has_pick in
      let new_a : Renaming = record { kind = a.new_kind; head = a.head } in
      let new_b : Renaming = record { kind = b.new_kind; head = b.head } in
      let moved = subst (λ (p : Pick). IsRenaming keywords.To p also.rest new_a) pick (subst (λ (c : Clause). IsRenaming keywords.To a.pick c.rest new_a) same is.becomes) in
      let new : new_a ≡ new_b = one_renaming one keywords.To b.pick also.rest new_a new_b moved also.becomes in
      λ i. record { kind = (same i).kind; pick = pick i; new_kind = (new i).kind; head = (new i).head }

  one_named : (tokens : List Token) (a b : List ℕ) → IsNamed tokens a → IsNamed tokens b → a ≡ b
  one_named tokens a b is also = same_some (file_in tokens) a b (named_so tokens a is).0 (named_so tokens b also).0

  pub one_read_in : (tokens : List Token) (a b : Read) → IsRead tokens a → IsRead tokens b → a ≡ b
  one_read_in tokens a b is also =
      let typed = one_typed keywords.Read tokens _ _ is.typed also.typed in
      let parted = one_bracketed Round also.behind is.parted also.parted (read_brackets tokens a is _ also.typed) also.in_brackets in
      let head = one_head_in one New also.parted.front a.head b.head (subst (λ (p : Parted). IsHeadIn New p.front a.head) parted is.has_head) also.has_head in
      let file = one_named also.parted.behind a.file b.file (subst (λ (p : Parted). IsNamed p.behind a.file) parted is.names) also.names in
      λ i. record { kind = (typed i).kind; head = head i; file = file i }

  one_others : (tokens : List Token) (a b : Part) → IsOthers tokens a → IsOthers tokens b → a ≡ b
  one_others tokens a b is also =
      let code = kinds is.0 also.0 is.2 also.2 (heads (sym is.3 ∙ also.3)) is.4 also.4 in
      is.6 ∙ ap (λ (n : ℕ). Not n) code ∙ sym also.6
    where
      heads : is.0 ∷ is.1 ≡ also.0 ∷ also.1 → is.0 ≡ also.0
      heads e = cc e

  one_gone_on : (ends : Bool) (kind : ℕ) (pick : Pick) (tokens : List Token) (a b : Part) → IsGoneOn ends kind pick tokens a → IsGoneOn ends kind pick tokens b → a ≡ b
  one_gone_on true kind pick tokens a b is also = is ∙ sym also
  one_gone_on false kind pick tokens a b is also =
      is.2
      ∙ ap (λ (r : Renaming). Renamed kind pick r.kind r.head) (one_renaming one keywords.As pick tokens is.0 also.0 is.1 also.1)
      ∙ sym also.2

  one_of_type : (kind : ℕ) (tokens : List Token) (a b : Part) → IsOfType kind tokens a → IsOfType kind tokens b → a ≡ b
  one_of_type kind tokens a b is also =
      let maybe = one_maybe tokens is.0 also.0 is.1 also.1 is.3 also.3 in
      let pick = one_pick one also.0 is.2 also.2 (subst (λ (o : Option (List Token)). IsPicked o is.2) maybe.0 is.4) also.4 in
      let on = subst (λ (p : Pick). IsGoneOn (is_empty also.1) kind p also.1 a) pick (subst (λ (ts : List Token). IsGoneOn (is_empty ts) kind is.2 ts a) maybe.1 is.5) in
      one_gone_on (is_empty also.1) kind also.2 also.1 a b on also.5

  one_part : (tokens : List Token) (a b : Part) → IsPart tokens a → IsPart tokens b → a ≡ b
  one_part tokens a b is also = by_end (is_empty tokens) refl
    where
      by_kind : (first : Token) (rest : List Token) → tokens ≡ first ∷ rest → is_empty tokens ≡ false → is_keyword keywords.Not first.shape ≡ false
          → (found : Option ℕ) → kind_in first.shape ≡ found → a ≡ b
      by_kind first rest here empty off None none = absurd (none_here tokens first rest here empty off none a is)
      by_kind first rest here empty off (Some code) has =
          one_of_type code rest a b (of_type_back tokens first rest here empty off code has a is) (of_type_back tokens first rest here empty off code has b also)

      by_word : (first : Token) (rest : List Token) → tokens ≡ first ∷ rest → is_empty tokens ≡ false → (word : Bool) → is_keyword keywords.Not first.shape ≡ word → a ≡ b
      by_word first rest here empty true word = one_others rest a b (others_back tokens first rest here empty word a is) (others_back tokens first rest here empty word b also)
      by_word first rest here empty false off = by_kind first rest here empty off (kind_in first.shape) refl

      by_tokens : (all : List Token) → tokens ≡ all → is_empty tokens ≡ false → a ≡ b
      by_tokens [] none empty = absurd (nothing_there tokens none empty a is)
      by_tokens (first ∷ rest) here empty = by_word first rest here empty (is_keyword keywords.Not first.shape) refl

      by_end : (ends : Bool) → is_empty tokens ≡ ends → a ≡ b
      by_end true ends = ended tokens ends a is ∙ sym (ended tokens ends b also)
      by_end false empty = by_tokens tokens refl empty

  pub one_included : (tokens : List Token) (a b : Include) → IsInclude tokens a → IsInclude tokens b → a ≡ b
  one_included tokens a b is also =
      let it = include_after tokens also.behind also.word also.are a is in
      let here = file_found also.behind it.file it.rest a.file it.names it.has_file (part_no_text it.rest a.part it.has_part) in
      let there = file_found also.behind also.file also.rest b.file also.names also.has_file (part_no_text also.rest b.part also.has_part) in
      let file : a.file ≡ b.file = same_some (file_in also.behind) a.file b.file here.0 there.0 in
      let rest = sym here.1 ∙ there.1 in
      let part : a.part ≡ b.part = one_part also.rest a.part b.part (subst (λ (ts : List Token). IsPart ts a.part) rest it.has_part) also.has_part in
      λ i. record { file = file i; part = part i }
