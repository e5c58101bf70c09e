-- The text by the parts in which the code writes it.
use Rattle.std.proofs.Common.{◌≡◌, ℕ, ◌≤◌, true, false, drop, List, [], ◌∷◌, ◌++◌, length, Ok, Option, Some, None, refl, sym, ap, ◌∙◌, append_assoc, append-nil, arith}
use Rattle.std.specs.Prelude.{◌==◌, codes}
use Rattle.std.specs.List.{flat_map}
use Rattle.std.proofs.lemmas.Bool.Decides.{nat_tests}
use Rattle.std.proofs.lemmas.Grind.{flat_map-append}
use Rattle.std.proofs.lemmas.List.{drop_all, nil_from_length}
use Rattle.rz_bridge.specs.declared.file.MacFile.{MacFile}
use Rattle.rz_bridge_files.specs.Forms.{form_word}
use Rattle.rz_bridge_files.specs.declared.form.Form.{Form}
use Rattle.rz_bridge_files.specs.declared.form.Form.TheVariants.{Raw, AppleDouble, AppleSingle, MacBinary, BinHex}
use Rattle.rz_core.specs.Decimal.{decimal_of}
use Rattle.rz_core.specs.Lists.{unless_fault}
use Rattle.rz_core.specs.Quoted.{literal_text, quoted, shown_byte}
use Rattle.rz_core.specs.declared.resource.Resource.{Resource}
use Rattle.rz_fork.specs.Admit.{admitted, inadmissible}
use Rattle.rz_fork.specs.Contents.{contents, Fork}
use Rattle.rz_fork.specs.declared.fault.ForkFault.{ForkFault}
use Rattle.rz_lex.specs.Spelled.{digits_of}
use Rattle.rz_show_lines.specs.Head.{attr_written}
use Rattle.rz_show_lines.specs.Written.{line_text}
use Rattle.rz_told.specs.Parts.{after_name, before_name, finder_rest, fork_fact, lock_fact, resource_end, resource_front, shown_name}
use Rattle.rz_told.specs.Text.{carried_facts, data_fact, date_facts, fact, file_text, finder_facts, name_told, resource_line}

-- Facts.

-- what stands after a name, apart from it: with one more piece, with two and with three
one_behind : (name end line t c g r f : List ℕ) → ((((((name ++ end) ++ line) ++ t) ++ c) ++ g) ++ r) ++ f ≡ name ++ (((((end ++ line) ++ t) ++ c) ++ g) ++ r ++ f)
one_behind name end line t c g r f = simp append_assoc

two_behind : (name end line t c g r s f : List ℕ)
    → (((((((name ++ end) ++ line) ++ t) ++ c) ++ g) ++ r) ++ s) ++ f ≡ name ++ (((((end ++ line) ++ t) ++ c) ++ g) ++ r ++ s ++ f)
two_behind name end line t c g r s f = simp append_assoc

three_behind : (name end line t c g r s u f : List ℕ)
    → ((((((((name ++ end) ++ line) ++ t) ++ c) ++ g) ++ r) ++ s) ++ u) ++ f ≡ name ++ (((((end ++ line) ++ t) ++ c) ++ g) ++ r ++ s ++ u ++ f)
three_behind name end line t c g r s u f = simp append_assoc

module _ (file : MacFile) where
  abbrev Shown : List ℕ
  Shown = flat_map (shown_byte 34) file.name

  abbrev Kind : List ℕ
  Kind = fact (codes "type") (literal_text file.finder.kind.code)

  abbrev Creator : List ℕ
  Creator = fact (codes "creator") (literal_text file.finder.creator.code)

  abbrev Flags : List ℕ
  Flags = fact (codes "flags") (codes "0x" ++ digits_of 16 4 file.finder.flags)

pub flags_are : (flags : ℕ) → codes "flags " ++ 48 ∷ 120 ∷ digits_of 16 4 flags ++ 10 ∷ [] ≡ fact (codes "flags") (codes "0x" ++ digits_of 16 4 flags)
unfolding fact
flags_are flags = refl

-- the facts of a form, whatever their name
facts_parted : (form : Form) (file : MacFile)
    → fact (codes "form") (form_word form) ++ carried_facts form file ++ fork_fact file ≡ before_name form ++ shown_name form file ++ after_name form file
unfolding fact finder_facts finder_rest lock_fact
facts_parted Raw file = refl
facts_parted AppleDouble file =
    ap (λ (t : List ℕ). codes "form double\nname \"" ++ t)
    (one_behind (Shown file) (codes "\"") (codes "\n") (Kind file) (Creator file) (Flags file) (date_facts file) (fork_fact file))
facts_parted AppleSingle file =
    ap (λ (t : List ℕ). codes "form single\nname \"" ++ t)
    (two_behind (Shown file) (codes "\"") (codes "\n") (Kind file) (Creator file) (Flags file) (date_facts file) (data_fact file) (fork_fact file))
facts_parted MacBinary file =
    ap (λ (t : List ℕ). codes "form macbin\nname \"" ++ t)
    (three_behind (Shown file) (codes "\"") (codes "\n") (Kind file) (Creator file) (Flags file) (lock_fact file) (date_facts file) (data_fact file) (fork_fact file))
facts_parted BinHex file =
    ap (λ (t : List ℕ). codes "form hqx\nname \"" ++ t)
    (one_behind (Shown file) (codes "\"") (codes "\n") (Kind file) (Creator file) (Flags file) (data_fact file) (fork_fact file))

pub facts_are : (form : Form) (file : MacFile)
    → before_name form ++ shown_name form file ++ after_name form file ≡ fact (codes "form") (form_word form) ++ carried_facts form file ++ fork_fact file
facts_are form file = sym (facts_parted form file)

-- the whole, with the fact of the fork among the others
pub text_is : (form : Form) (file : MacFile) (list : List Resource)
    → fact (codes "form") (form_word form) ++ carried_facts form file ++ fork_fact file ++ flat_map resource_line list ++ fact (codes "resources") (decimal_of (length list)) ≡ file_text form file list
unfolding file_text fork_fact
text_is form file list = refl

-- Resources.

told_none : (name : List ℕ) → length name ≡ 0 → name_told name ≡ []
unfolding name_told
told_none name none = rw none refl

told_some : (name : List ℕ) → (length name == 0) ≡ false → name_told name ≡ codes ", " ++ quoted 34 name
unfolding name_told
told_some name some = rw some refl

without : (f a b d n : List ℕ) → (((f ++ [] ++ a) ++ b) ++ d) ++ n ≡ f ++ (((a ++ b) ++ d) ++ n)
without f a b d n = simp (append_assoc, append-nil)

with_name : (f p x q a b d n : List ℕ) → (((f ++ (p ++ (x ++ q)) ++ a) ++ b) ++ d) ++ n ≡ f ++ p ++ x ++ (q ++ (((a ++ b) ++ d) ++ n))
with_name f p x q a b d n = simp append_assoc

line_with : (r : Resource) (told : List ℕ) → name_told r.name ≡ told
    → resource_line r ≡ resource_front r ++ told ++ line_text (attr_written r.attr) ++ codes ") " ++ decimal_of (length r.bytes) ++ codes "\n"
unfolding resource_line resource_front
line_with r told is = ap (λ (t : List ℕ). resource_front r ++ t ++ line_text (attr_written r.attr) ++ codes ") " ++ decimal_of (length r.bytes) ++ codes "\n") is

pub unnamed_is : (r : Resource) → length r.name ≡ 0 → resource_front r ++ resource_end r ≡ resource_line r
unfolding resource_end
unnamed_is r none =
    sym (line_with r [] (told_none r.name none)
    ∙ without (resource_front r) (line_text (attr_written r.attr)) (codes ") ") (decimal_of (length r.bytes)) (codes "\n"))

pub named_is : (r : Resource) → (length r.name == 0) ≡ false
    → resource_front r ++ codes ", \"" ++ flat_map (shown_byte 34) r.name ++ (codes "\"" ++ resource_end r) ≡ resource_line r
unfolding resource_end
named_is r some =
    sym (line_with r (codes ", " ++ quoted 34 r.name) (told_some r.name some)
    ∙ with_name (resource_front r) (codes ", \"") (flat_map (shown_byte 34) r.name) (codes "\"") (line_text (attr_written r.attr)) (codes ") ") (decimal_of (length r.bytes)) (codes "\n"))

-- Lists.

pub shown_on : (front piece : List ℕ) → flat_map (shown_byte 34) front ++ flat_map (shown_byte 34) piece ≡ flat_map (shown_byte 34) (front ++ piece)
shown_on front piece = sym (flat_map-append (shown_byte 34) front piece)

pub lines_on : (front : List Resource) (r : Resource) → flat_map resource_line front ++ resource_line r ≡ flat_map resource_line (front ++ r ∷ [])
lines_on front r =
    sym (flat_map-append resource_line front (r ∷ []) ∙ ap (λ (t : List ℕ). flat_map resource_line front ++ t) (append-nil (resource_line r)))

-- nothing is left of a piece
pub all_shown : (front piece : List ℕ) (index : ℕ) → length piece ≤ index → front ++ flat_map (shown_byte 34) (drop index piece) ≡ flat_map (shown_byte 34) piece
    → front ≡ flat_map (shown_byte 34) piece
all_shown front piece index all is =
    sym (append-nil front) ∙ ap (λ (l : List ℕ). front ++ flat_map (shown_byte 34) l) (sym (drop_all index piece all)) ∙ is

-- a text with more after it
pub shown_all : (front piece behind : List ℕ)
    → flat_map (shown_byte 34) front ++ (flat_map (shown_byte 34) piece ++ flat_map (shown_byte 34) behind) ≡ flat_map (shown_byte 34) (front ++ (piece ++ behind))
shown_all front piece behind = ap (λ (t : List ℕ). flat_map (shown_byte 34) front ++ t) (shown_on piece behind) ∙ shown_on front (piece ++ behind)

pub lines_all : (front : List Resource) (r : Resource) (behind : List Resource)
    → flat_map resource_line front ++ (resource_line r ++ flat_map resource_line behind) ≡ flat_map resource_line (front ++ (r ∷ behind))
lines_all front r behind = sym (flat_map-append resource_line front (r ∷ behind))

-- The fork.

-- what a fork that is admitted holds
pub contents_are : (bytes piece : List ℕ) → piece ≡ bytes → (fork : Fork) → admitted piece ≡ Ok fork → fork ≡ contents bytes
contents_are bytes piece same fork is = by (inadmissible piece) is
  where
    by : (broken : Option ForkFault) → unless_fault broken (contents piece) ≡ Ok fork → fork ≡ contents bytes
    by None so = let held : contents piece ≡ fork = cc so in sym held ∙ ap contents same
    by (Some fault) so = cc so

-- Tests.

pub none_left : (bytes : List ℕ) → (length bytes == 0) ≡ true → bytes ≡ []
none_left bytes is = nil_from_length bytes (grind (arith, nat_tests, is))

pub no_name : (name : List ℕ) → (length name == 0) ≡ true → length name ≡ 0
no_name name is = grind (arith, nat_tests, is)
