-- There is one answer, and its marks are those of the tokens.
use Rattle.std.proofs.Common.{◌≡◌, ◌↔◌, ℕ, ◌<◌, Bool, true, false, List, [], ◌∷◌, Some, None, refl, sym, ap, subst, ◌∙◌, inl, inr}
use Rattle.std.specs.Prelude.{if◌then◌else◌, Ok, Err}
use Rattle.std.specs.List.{AllByRecursion}
use Rattle.std.specs.declared.option.Option.{Option}
use Rattle.std.specs.declared.result.Result.{Result}
use Rattle.rz_core.proofs.Has.{has_is, has_then, Has}
use Rattle.rz_core.proofs.Once.{once_by, once_is, once_then, Once}
use Rattle.rz_core.proofs.Tests.{none_some}
use Rattle.rz_core.specs.Decided.{Decided}
use Rattle.rz_core.specs.Message.{IsNameable}
use Rattle.rz_core.specs.declared.fault.Fault.{Fault}
use Rattle.rz_core.specs.declared.fault.Mark.{Mark}
use Rattle.rz_lex.specs.Token.{is_the_sign}
use Rattle.rz_lex.specs.declared.sign.Sign.{Sign}
use Rattle.rz_lex.specs.declared.sign.Sign.TheVariants.{Semicolon}
use Rattle.rz_lex.specs.declared.token.Shape.{Shape}
use Rattle.rz_lex.specs.declared.token.Shape.TheVariants as shapes
use Rattle.rz_lex.specs.declared.token.Token.{Token}
use Rattle.rz_catalog_text.specs.Entries.{bad_entry, chunks, first_mark, in_first, AreEntries, IsEntry, IsEntryAnswer}
use Rattle.rz_catalog_text.specs.InOrder.{EachInOrder}
use Rattle.rz_catalog_text.specs.Read.{entry_in, shapes_of}
use Rattle.rz_catalog_text.specs.declared.entry.Entry.{Entry}
use Rattle.rz_catalog_text.proofs.Decides.{decided, one_entry, same_inside}

-- What is answered for each item, in order.

pub once_in_order : {A B F : Type 0} (answers : A → Result B F → Type 0) → ((x : A) → Once (answers x)) → (xs : List A) → Once (EachInOrder answers xs)
once_in_order answers once [] = once_is (Ok [])
once_in_order answers once (x ∷ xs) = once_then (answers x) _ (once x) (λ y. once_then (EachInOrder answers xs) _ (once_in_order answers once xs) (λ ys. once_is (Ok (y ∷ ys))))

pub has_in_order : {A B F : Type 0} (answers : A → Result B F → Type 0) → ((x : A) → Has (answers x)) → (xs : List A) → Has (EachInOrder answers xs)
has_in_order answers has [] = has_is (Ok [])
has_in_order answers has (x ∷ xs) = has_then (answers x) _ (has x) (λ y _. has_then (EachInOrder answers xs) _ (has_in_order answers has xs) (λ ys _. has_is (Ok (y ∷ ys))))

-- Entries.

once_entry : (chunk : List Token) → Once (IsEntryAnswer chunk)
once_entry chunk = once_by (IsEntryAnswer chunk) (one_entry chunk) (λ f g a b. a.1 ∙ sym b.1) (λ entry fault is never. never.0 entry is)

pub one_list : (tokens : List Token) (one other : Result (List Entry) Fault) → AreEntries tokens one → AreEntries tokens other → one ≡ other
one_list tokens = once_in_order IsEntryAnswer once_entry (chunks tokens)

module _ (law : (sign : Sign) (shape : Shape) → (is_the_sign sign shape ≡ true) ↔ (shape ≡ shapes.Sign sign)) where
  answered : (chunk : List Token) (found : Option Entry) → Decided (IsEntry chunk) found → Has (IsEntryAnswer chunk)
  answered chunk None never = (Err (bad_entry (first_mark chunk)), (never, refl))
  answered chunk (Some entry) is = (Ok entry, is)

  has_entry : (chunk : List Token) → Has (IsEntryAnswer chunk)
  has_entry [] = answered [] None (λ entry is. none_some entry.mark is.is_mark)
  has_entry (token ∷ chunk) =
      answered (token ∷ chunk) (entry_in token.mark (shapes_of (token ∷ chunk))) (decided law token.mark (token ∷ chunk) refl (entry_in token.mark (shapes_of (token ∷ chunk))) refl)

  pub every_list : (tokens : List Token) → (answer : Result (List Entry) Fault) × AreEntries tokens answer
  every_list tokens = has_in_order IsEntryAnswer has_entry (chunks tokens)

-- Marks.

module _ (files : ℕ) where
  abbrev AreIn : List Token → Type 0
  AreIn tokens = AllByRecursion (λ token. token.mark.file < files) tokens

  -- a chunk of tokens has a mark, and it is in these files
  abbrev IsIn : List Token → Type 0
  IsIn chunk = (mark : Mark) × (first_mark chunk ≡ Some mark) × (mark.file < files)

  first_in : (token : Token) (cut : List (List Token)) → token.mark.file < files → AllByRecursion IsIn cut → AllByRecursion IsIn (in_first token cut)
  first_in token [] here all = ((token.mark, refl, here), tt)
  first_in token (chunk ∷ cut) here all = ((token.mark, refl, here), all.1)

  chunk_in : (ends : Bool) (token : Token) (cut : List (List Token)) → token.mark.file < files → AllByRecursion IsIn cut
      → AllByRecursion IsIn (if ends then (token ∷ []) ∷ cut else in_first token cut)
  chunk_in true token cut here all = ((token.mark, refl, here), all)
  chunk_in false token cut here all = first_in token cut here all

  chunks_in : (tokens : List Token) → AreIn tokens → AllByRecursion IsIn (chunks tokens)
  chunks_in [] all = tt
  chunks_in (token ∷ tokens) all = chunk_in (is_the_sign Semicolon token.shape) token (chunks tokens) all.0 (chunks_in tokens all.1)

  nameable : (cut : List (List Token)) (fault : Fault) → AllByRecursion IsIn cut → EachInOrder IsEntryAnswer cut (Err fault) → IsNameable files fault
  nameable [] fault all is = absurd cc
  nameable (chunk ∷ cut) fault all (inl (entry, is, inl (entries, others, same))) = absurd cc
  nameable (chunk ∷ cut) fault all (inl (entry, is, inr (found, others, same))) =
      let same_fault : fault ≡ found = cc in
      subst (IsNameable files) (sym same_fault) (nameable cut found all.1 others)
  nameable (chunk ∷ cut) fault all (inr (found, is, same)) =
      let same_fault : fault ≡ found = cc in
      let told : fault ≡ bad_entry (Some all.0.0) = same_fault ∙ (is.1 ∙ ap bad_entry all.0.1) in
      subst (IsNameable files) (sym told) (record { number = refl; place = all.0.2 })

  entries_in : (cut : List (List Token)) (entries : List Entry) → AllByRecursion IsIn cut → EachInOrder IsEntryAnswer cut (Ok entries) → AllByRecursion (λ entry. entry.mark.file < files) entries
  entries_in [] [] all is = tt
  entries_in [] (entry ∷ entries) all is = absurd cc
  entries_in (chunk ∷ cut) entries all (inl (entry, is, inl (others, are, same))) =
      let same_list : entry ∷ others ≡ entries = cc in
      let mark_is = same_inside all.0.0 entry.mark (sym all.0.1 ∙ is.is_mark) in
      subst (λ (es : List Entry). AllByRecursion (λ entry. entry.mark.file < files) es) same_list
      (subst (λ (m : Mark). m.file < files) mark_is all.0.2, entries_in cut others all.1 are)
  entries_in (chunk ∷ cut) entries all (inl (entry, is, inr (found, others, same))) = absurd cc
  entries_in (chunk ∷ cut) entries all (inr (found, is, same)) = absurd cc

pub fault_in_files : (files : ℕ) (tokens : List Token) (fault : Fault) → AllByRecursion (λ token. token.mark.file < files) tokens → AreEntries tokens (Err fault) → IsNameable files fault
fault_in_files files tokens fault all is = nameable files (chunks tokens) fault (chunks_in files tokens all) is

pub entries_in_files : (files : ℕ) (tokens : List Token) (entries : List Entry) → AllByRecursion (λ token. token.mark.file < files) tokens → AreEntries tokens (Ok entries)
    → AllByRecursion (λ entry. entry.mark.file < files) entries
entries_in_files files tokens entries all is = entries_in files (chunks tokens) entries (chunks_in files tokens all) is
