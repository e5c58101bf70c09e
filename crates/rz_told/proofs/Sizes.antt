-- What is written on one line fits there.
use Rattle.std.proofs.Common.{◌≡◌, ℕ, ◌+◌, ◌^◌, ◌<◌, ◌≤◌, ℤ, if◌then◌else◌, List, [], ◌∷◌, ◌++◌, length, arith, length-append, append_assoc, sym, ap, ◌∙◌}
use Rattle.std.specs.Prelude.{codes, FitsSigned}
use Rattle.std.specs.Int.{w16}
use Rattle.std.specs.List.{flat_map}
use Rattle.std.proofs.lemmas.Fmt.{length-decimal-le}
use Rattle.rz_bridge.specs.declared.file.MacFile.{MacFile}
use Rattle.rz_bridge_files.specs.declared.form.Form.{Form}
use Rattle.rz_bridge_files.specs.declared.form.Form.TheVariants.{Raw, AppleDouble, AppleSingle, MacBinary, BinHex}
use Rattle.rz_core.proofs.Tests.{by_test}
use Rattle.rz_core.specs.Decimal.{decimal_of, signed_of}
use Rattle.rz_core.specs.Numbers.{be, length-be_4}
use Rattle.rz_core.specs.Quoted.{literal_text, shown_byte}
use Rattle.rz_core.specs.declared.resource.Resource.{Resource}
use Rattle.rz_lex.specs.Spelled.{digits_of}
use Rattle.rz_show_lines.specs.Cut.{cut}
use Rattle.rz_show_lines.specs.Head.{attr_written}
use Rattle.rz_show_lines.specs.Print.{signed_written}
use Rattle.rz_show_lines.specs.Written.{line_text}
use Rattle.rz_show_lines.proofs.HeadSizes.{attr_size, id_size}
use Rattle.rz_show_lines.proofs.ShortTokens.{quoted_short, size}
use Rattle.rz_show_lines.proofs.Writes.{cut_again, cut_short, signed_is}
use Rattle.rz_told.proofs.Dates.{date_size}
use Rattle.rz_told.specs.Date.{date_told}
use Rattle.rz_told.specs.Held.{AreStored}
use Rattle.rz_told.specs.Parts.{after_name, carried_rest, finder_rest, fork_fact, lock_fact, resource_end, resource_front}
use Rattle.rz_told.specs.Text.{data_fact, date_facts, fact}

-- Writes on an empty line.

pub one_written : (start end a : List ℕ) → start ≡ [] → end ≡ cut (start ++ a) → length a ≤ 512 → end ≡ a
one_written start end a none first fits = first ∙ ap (λ (l : List ℕ). cut (l ++ a)) none ∙ cut_short a fits

pub two_written : (start mid end a b : List ℕ) → start ≡ [] → mid ≡ cut (start ++ a) → end ≡ cut (mid ++ b) → length (a ++ b) ≤ 512 → end ≡ a ++ b
two_written start mid end a b none first second fits =
    second ∙ ap (λ (l : List ℕ). cut (l ++ b)) (first ∙ ap (λ (l : List ℕ). cut (l ++ a)) none) ∙ cut_again a b ∙ cut_short (a ++ b) fits

-- Writes after others.

pub three_on : (old one two three a b c : List ℕ) → one ≡ cut (old ++ a) → two ≡ cut (one ++ b) → three ≡ cut (two ++ c) → three ≡ cut (old ++ (a ++ b ++ c))
three_on old one two three a b c first second third =
    third ∙ ap (λ (l : List ℕ). cut (l ++ c)) (second ∙ ap (λ (l : List ℕ). cut (l ++ b)) first ∙ cut_again (old ++ a) b) ∙ cut_again (old ++ a ++ b) c
    ∙ ap cut (append_assoc (old ++ a) b c ∙ append_assoc old a (b ++ c) ∙ ap (λ (l : List ℕ). old ++ l) (sym (append_assoc a b c)))

-- Values.

number_size : (n : ℕ) → n < 2 ^ 64 → length (decimal_of n) ≤ 20
unfolding decimal_of
number_size n small = length-decimal-le 20 n (omega arith) (omega (arith, small)) small

type_size : (code : ℕ) → length (literal_text code) ≤ 22
type_size code = omega (arith, quoted_short 39 (be 4 code), length-be_4 code)

pub shown_size : (bytes : List ℕ) → length bytes ≤ 64 → length (flat_map (shown_byte 34) bytes) ≤ 512
shown_size bytes few = omega (arith, quoted_short 34 bytes, length-append (flat_map (shown_byte 34) bytes) (34 ∷ []))

-- Facts.

fact_size : (word value : List ℕ) → length (fact word value) ≡ length word + length value + 2
unfolding fact
fact_size word value = simp length-append (omega arith)

finder_size : (file : MacFile) → length (finder_rest file) ≤ 80
unfolding finder_rest
finder_size file =
    let kind = fact (codes "type") (literal_text file.finder.kind.code) in
    let creator = fact (codes "creator") (literal_text file.finder.creator.code) in
    let flags = fact (codes "flags") (codes "0x" ++ digits_of 16 4 file.finder.flags) in
    omega (
      arith,
      length-append (codes "\"\n" ++ kind ++ creator) flags,
      length-append (codes "\"\n" ++ kind) creator,
      length-append (codes "\"\n") kind,
      fact_size (codes "type") (literal_text file.finder.kind.code),
      fact_size (codes "creator") (literal_text file.finder.creator.code),
      fact_size (codes "flags") (codes "0x" ++ digits_of 16 4 file.finder.flags),
      type_size file.finder.kind.code,
      type_size file.finder.creator.code,
    )

lock_size : (file : MacFile) → length (lock_fact file) ≤ 20
unfolding lock_fact
lock_size file = by_test (length (fact (codes "locked") (if file.locked then codes "true" else codes "false")) ≤ 20) file.locked
    (λ h. rw h (omega (arith, fact_size (codes "locked") (codes "true"))))
    (λ h. rw h (omega (arith, fact_size (codes "locked") (codes "false"))))

dates_size : (file : MacFile) → file.created < 2 ^ 32 → file.modified < 2 ^ 32 → length (date_facts file) ≤ 80
unfolding date_facts
dates_size file created modified =
    omega (
      arith,
      length-append (fact (codes "created") (date_told file.created)) (fact (codes "modified") (date_told file.modified)),
      fact_size (codes "created") (date_told file.created),
      fact_size (codes "modified") (date_told file.modified),
      date_size file.created created,
      date_size file.modified modified,
    )

data_size : (file : MacFile) → length file.data_fork < 2 ^ 64 → length (data_fact file) ≤ 30
unfolding data_fact
data_size file small = omega (arith, fact_size (codes "data") (decimal_of (length file.data_fork)), number_size (length file.data_fork) small)

fork_size : (file : MacFile) → length file.res_fork < 2 ^ 64 → length (fork_fact file) ≤ 30
unfolding fork_fact
fork_size file small = omega (arith, fact_size (codes "fork") (decimal_of (length file.res_fork)), number_size (length file.res_fork) small)

carried_size : (form : Form) (file : MacFile) → AreStored file → length (carried_rest form file) ≤ 220
carried_size Raw file has = omega arith
carried_size AppleDouble file has = omega (arith, length-append (finder_rest file) (date_facts file), finder_size file, dates_size file has.created has.modified)
carried_size AppleSingle file has =
    omega (
      arith,
      length-append (finder_rest file ++ date_facts file) (data_fact file),
      length-append (finder_rest file) (date_facts file),
      finder_size file,
      dates_size file has.created has.modified,
      data_size file has.data_fork,
    )
carried_size MacBinary file has =
    omega (
      arith,
      length-append (finder_rest file ++ lock_fact file ++ date_facts file) (data_fact file),
      length-append (finder_rest file ++ lock_fact file) (date_facts file),
      length-append (finder_rest file) (lock_fact file),
      finder_size file,
      lock_size file,
      dates_size file has.created has.modified,
      data_size file has.data_fork,
    )
carried_size BinHex file has = omega (arith, length-append (finder_rest file) (data_fact file), finder_size file, data_size file has.data_fork)

pub after_name_size : (form : Form) (file : MacFile) → AreStored file → length (after_name form file) ≤ 512
after_name_size form file has =
    omega (arith, length-append (carried_rest form file) (fork_fact file), carried_size form file has, fork_size file has.res_fork)

pub count_size : (n : ℕ) → n < 2 ^ 64 → length (fact (codes "resources") (decimal_of n)) ≤ 512
count_size n small = omega (arith, fact_size (codes "resources") (decimal_of n), number_size n small)

-- Resources.

signed_size : (id : ℤ) → FitsSigned w16 id → length (signed_of id) ≤ 11
unfolding signed_of
signed_size id fits = let same : length (signed_of id) ≡ size (signed_written id) = ap (λ (t : List ℕ). length t) (sym (signed_is id)) in omega (arith, same, id_size id fits)

front_size : (r : Resource) → FitsSigned w16 r.id → length (resource_front r) ≤ 60
unfolding resource_front
front_size r fits =
    omega (
      arith,
      length-append (literal_text r.kind.code ++ codes " (") (signed_of r.id),
      length-append (literal_text r.kind.code) (codes " ("),
      type_size r.kind.code,
      signed_size r.id fits,
    )

end_size : (r : Resource) → length r.bytes < 2 ^ 64 → length (resource_end r) ≤ 100
unfolding resource_end
end_size r small =
    let attributes = line_text (attr_written r.attr) in
    omega (
      arith,
      length-append (attributes ++ codes ") " ++ decimal_of (length r.bytes)) (codes "\n"),
      length-append (attributes ++ codes ") ") (decimal_of (length r.bytes)),
      length-append attributes (codes ") "),
      attr_size r.attr,
      number_size (length r.bytes) small,
    )

pub unnamed_size : (r : Resource) → FitsSigned w16 r.id → length r.bytes < 2 ^ 64 → length (resource_front r ++ resource_end r) ≤ 512
unnamed_size r id bytes = omega (arith, length-append (resource_front r) (resource_end r), front_size r id, end_size r bytes)

pub before_size : (r : Resource) → FitsSigned w16 r.id → length (resource_front r ++ codes ", \"") ≤ 512
before_size r id = omega (arith, length-append (resource_front r) (codes ", \""), front_size r id)

pub after_size : (r : Resource) → length r.bytes < 2 ^ 64 → length (codes "\"" ++ resource_end r) ≤ 512
after_size r bytes = omega (arith, length-append (codes "\"") (resource_end r), end_size r bytes)
