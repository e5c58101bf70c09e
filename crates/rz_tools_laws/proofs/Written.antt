-- What `restring` wrote, and of what.
use Rattle.std.proofs.Common.{◌≡◌, ◌==◌, inl, inr, ℕ, ℤ, pos, negsuc, ◌+ℤ◌, ◌≤ℤ◌, ◌<◌, ◌^◌, Bool, true, false, if◌then◌else◌, bit_and, List, [], ◌∷◌, ◌++◌, length, map, Option, Some, None, Ok, Err, refl, sym, ap, subst, ◌∙◌, arith}
use Rattle.std.proofs.lemmas.Int.{ints}
use Rattle.std.specs.FinMap as finite
use Rattle.std.specs.Int.{cast_unsigned, w32}
use Rattle.std.specs.declared.result.Result.{Result}
use Rattle.rz_bridge.specs.declared.fault.BridgeFault.{BridgeFault}
use Rattle.rz_bridge.specs.declared.file.MacFile.{MacFile}
use Rattle.rz_bridge_files.specs.Contents.{admit_fork, file_in, form_or}
use Rattle.rz_bridge_files.specs.Faults.{or_broken, or_torn}
use Rattle.rz_bridge_files.specs.Names.{own, raw, taken, foreign, roman, Named, TakesName}
use Rattle.rz_bridge_files.specs.Forms.{carried_of, content_of, written_of}
use Rattle.rz_bridge_files.specs.declared.form.Form.{Form}
use Rattle.rz_bridge_files.specs.declared.form.Form.TheVariants.{AppleDouble, AppleSingle, BinHex, MacBinary, Raw}
use Rattle.rz_catalog.specs.Apply.{Applied}
use Rattle.rz_catalog_text.specs.declared.entry.Entry.{Entry}
use Rattle.rz_core.proofs.Once.{ok_or_err, same_ok}
use Rattle.rz_core.specs.Lists.{first_of}
use Rattle.rz_core.specs.Roman.{roman_byte, IsOneToOne}
use Rattle.rz_core.specs.declared.fault.Fault.{Fault}
use Rattle.rz_core.specs.declared.moment.Moment.{Moment}
use Rattle.rz_core.specs.declared.resource.Resource.{Resource}
use Rattle.rz_folder.specs.Folder.{Files}
use Rattle.rz_fork.specs.Admit.{admitted}
use Rattle.rz_fork.specs.Contents.{Fork}
use Rattle.rz_fork.specs.Image.{fork_of}
use Rattle.rz_fork.specs.declared.fault.ForkFault.{ForkFault}
use Rattle.rz_fork.specs.declared.fault.LimitFault.{LimitFault}
use Rattle.rz_laws.proofs.Faults.{first_step, unfaulted}
use Rattle.rz_laws.specs.Kept.{AreBytes, IsKept}
use Rattle.rz_pre_source.specs.Source.{mark, marked, unmarked, IsTextOf}
use Rattle.rz_tools.proofs.ShownAgain.{made_or_not, not_refused}
use Rattle.rz_tools.specs.Restring.{target_named, AnswersRestring, HasCatalogueFile, IsRestrungUnder, RestringAsked}
use Rattle.rz_tools.specs.Sources.{Compiled}
use Rattle.rz_tools.specs.Types.{TypesAre}
use Rattle.rz_tools_answer.specs.Answer.{Answer, Making, Write}
use Rattle.rz_tools_answer.specs.declared.made.Failing.{Failing}
use Rattle.rz_tools_answer.specs.declared.outcome.Outcome.TheVariants.{Done}
use Rattle.rz_tools_output.specs.Base.{base_held, base_in, begun_with, limited, read_only, too_long, Base}
use Rattle.rz_tools_output.specs.Output.{created_at, file_of, fork_or_fault, list_fork, mac_time, past_limit, IsOutput}

-- The laws below.

abbrev pub FilesAreKept : Type 0
FilesAreKept = (form : Form) (bytes data_file : List ℕ) (file : MacFile) → AreBytes bytes → AreBytes data_file → content_of form bytes data_file ≡ Ok file → IsKept file

abbrev pub FormsAreRead : Type 0
FormsAreRead = (form : Form) (file : MacFile) (bytes : List ℕ) → IsKept file → written_of form file ≡ Ok bytes
    → content_of form bytes file.data_fork ≡ Ok (carried_of form file)

abbrev pub ForksAreAlone : Type 0
ForksAreAlone = (form : Form) (bytes data_file : List ℕ) (file : MacFile) → content_of form bytes data_file ≡ Ok file
    → (alone : MacFile) × (content_of form bytes [] ≡ Ok alone) × (alone.res_fork ≡ file.res_fork)

-- What there is to begin with is of the fork in the bytes, whose resources are short.

unbroken : {X : Type 0} (held : Result X BridgeFault) (value : X) → or_broken None held ≡ Ok value → held ≡ Ok value
unbroken (Ok other) value is = cc is
unbroken (Err fault) value is = cc is

untorn : {X : Type 0} (held : Result X ForkFault) (value : X) → or_torn None held ≡ Ok value → held ≡ Ok value
untorn (Ok other) value is = cc is
untorn (Err fault) value is = cc is

pub record Begun (form : Option Form) (bytes : List ℕ) (base : Base) : Type 0 where
  pub file : MacFile
  pub read : content_of (form_or form bytes) bytes [] ≡ Ok file
  pub admits : admitted file.res_fork ≡ Ok base.fork
  pub short : first_of (map too_long base.fork.list) ≡ None
  pub fields : record file { res_fork = [] } ≡ base.file

module _ (form : Option Form) (bytes : List ℕ) (base : Base) where
  made_of : MacFile → Fork → Base
  made_of file fork = record { form = form_or form bytes; file = record file { res_fork = [] }; fork = fork }

  free : (file : MacFile) (fork : Fork) (test : Bool) → (if test then Ok (made_of file fork) else Err (read_only fork.attributes)) ≡ Ok base → made_of file fork ≡ base
  free file fork true is = same_ok {F = Fault} (made_of file fork) base is
  free file fork false is = absurd (ok_or_err {F = Fault} base (read_only fork.attributes) (sym is))

  pub begun : base_in true form bytes ≡ Ok base → Begun form bytes base
  unfolding made_of
  begun is =
      let read = first_step (file_in None form bytes []) _ base is in
      let admits = first_step (admit_fork None read.0.res_fork) _ base read.2 in
      let short = first_step (limited true admits.0) (begun_with (form_or form bytes) read.0) base admits.2 in
      let same = unfaulted (first_of (map too_long admits.0.list)) admits.0 short.0 short.1 in
      let whole = free read.0 short.0 (bit_and short.0.attributes 128 == 0) short.2 in
      let fork : admits.0 ≡ base.fork = same.1 ∙ ap (λ (b : Base). b.fork) whole in
      record {
        file = read.0;
        read = unbroken (content_of (form_or form bytes) bytes []) read.0 read.1;
        admits = untorn (admitted read.0.res_fork) admits.0 admits.1 ∙ ap (λ (f : Fork). Ok f) fork;
        short = sym (ap (λ (f : Fork). first_of (map too_long f.list)) fork) ∙ same.0;
        fields = ap (λ (b : Base). b.file) whole;
      }

-- The files that there are have the widths of the code.

pub base_kept : (form : Option Form) (bytes : List ℕ) (base : Base) (begins : Begun form bytes base) → IsKept begins.file → IsKept base.file
base_kept form bytes base begins kept =
    subst IsKept begins.fields (record {
      stored = kept.stored;
      dates = record { created = kept.dates.created; modified = kept.dates.modified };
      name = kept.name;
      extra = kept.extra;
      data_fork = kept.data_fork;
      res_fork = tt;
    })

seconds_small : (z : ℤ) → pos 0 ≤ℤ z → z ≤ℤ pos 4294967295 → cast_unsigned w32 z < 2 ^ 32
seconds_small (pos n) low high = omega (arith, ints, high)
seconds_small (negsuc n) low high = absurd (omega (arith, ints, low))

time_small : (moment : Moment) → mac_time moment < 2 ^ 32
time_small moment =
    let first = moment.in_range.0 in
    let last = moment.in_range.1 in
    seconds_small (moment.unix +ℤ pos 2082844800) (omega (arith, ints, first)) (omega (arith, ints, last))

created_small : (created : ℕ) (moment : Moment) → created < 2 ^ 32 → created_at created moment < 2 ^ 32
created_small created moment small = by (created == 0)
  where
    by : (t : Bool) → (if t then mac_time moment else created) < 2 ^ 32
    by true = time_small moment
    by false = small

output_kept : (name : List ℕ) (moment : Moment) (file : MacFile) (fork : List ℕ) → IsKept file → AreBytes fork → IsKept (file_of (target_named name) moment file fork)
output_kept name moment file fork kept are = record {
  stored = kept.stored;
  dates = record { created = created_small file.created moment kept.dates.created; modified = time_small moment };
  name = kept.name;
  extra = kept.extra;
  data_fork = kept.data_fork;
  res_fork = are;
}

module _ (table : IsOneToOne) where
  spelled_bytes : (cs bytes : List ℕ) → map roman_byte cs ≡ map Some bytes → AreBytes bytes
  spelled_bytes [] [] is = tt
  spelled_bytes [] (b ∷ bytes) is = absurd cc
  spelled_bytes (c ∷ cs) [] is = absurd cc
  spelled_bytes (c ∷ cs) (b ∷ bytes) is =
      let first : roman_byte c ≡ Some b = cc is in
      let later : map roman_byte cs ≡ map Some bytes = cc is in
      ((table.stands c b first).0, spelled_bytes cs bytes later)

  text_bytes : (last name : List ℕ) → IsTextOf (mark ++ last) name → AreBytes name
  text_bytes last name (unmarked none same) = absurd (none last refl)
  text_bytes last name (marked utf8 is spells) = spelled_bytes spells.characters name spells.each

  taken_bytes : (path name : List ℕ) → TakesName path (Ok name) → AreBytes name
  taken_bytes path name (roman folder last spelled parted text is) = subst AreBytes (sym (same_ok {F = Fault} name spelled is)) (text_bytes last spelled text)
  taken_bytes path name (foreign folder last parted none is) = absurd (ok_or_err {F = Fault} name _ is)

  named_kept : (form : Form) (path : List ℕ) (file named : MacFile) → Named form path file (Ok named) → IsKept file → IsKept named × (named.res_fork ≡ file.res_fork)
  named_kept form path file named (raw so same) kept = let is = same_ok {F = Fault} named file same in (subst IsKept (sym is) kept, ap (λ (f : MacFile). f.res_fork) is)
  named_kept form path file named (own other has same) kept = let is = same_ok {F = Fault} named file same in (subst IsKept (sym is) kept, ap (λ (f : MacFile). f.res_fork) is)
  named_kept form path file named (taken other none (inl (name, takes, same))) kept =
      let renamed : MacFile = record file { name = name } in
      let is = same_ok {F = Fault} named renamed same in
      let fresh : IsKept renamed = record {
        stored = kept.stored;
        dates = record { created = kept.dates.created; modified = kept.dates.modified };
        name = taken_bytes path name takes;
        extra = kept.extra;
        data_fork = kept.data_fork;
        res_fork = kept.res_fork;
      } in
      (subst IsKept (sym is) fresh, ap (λ (f : MacFile). f.res_fork) is)
  named_kept form path file named (taken other none (inr (fault, takes, same))) kept = absurd (ok_or_err {F = Fault} named fault same)

-- The file that is written is read with the fork of the resources.

made_fork : (made : Result (List ℕ) LimitFault) (fork : List ℕ) → Ok fork ≡ fork_or_fault made → made ≡ Ok fork
made_fork (Ok whole) fork is = ap (λ (l : List ℕ). Ok l) (sym (same_ok {F = Fault} fork whole is))
made_fork (Err fault) fork is = absurd (ok_or_err {F = Fault} fork (past_limit fault) is)

listed_fork : (attributes : ℕ) (reserved : List ℕ) (list : List Resource) (fork : List ℕ) → Ok fork ≡ list_fork attributes reserved list → fork_of list attributes reserved ≡ Ok fork
unfolding list_fork
listed_fork attributes reserved list fork is = made_fork (fork_of list attributes reserved) fork is

carried_fork : (form : Form) (file : MacFile) → (carried_of form file).res_fork ≡ file.res_fork
carried_fork Raw file = refl
carried_fork AppleDouble file = refl
carried_fork AppleSingle file = refl
carried_fork MacBinary file = refl
carried_fork BinHex file = refl

-- these bytes are read in a form with this fork
abbrev pub HasFork : Form → List ℕ → List ℕ → Type 0
HasFork form bytes fork = (read : MacFile) × (content_of form bytes [] ≡ Ok read) × (read.res_fork ≡ fork)

module _ (table : IsOneToOne) (back : FormsAreRead) (alone : ForksAreAlone) (name : List ℕ) (moment : Moment) (base : Base) (kept : IsKept base.file) where
  pub output_fork : (list : List Resource) (bytes : List ℕ) → IsOutput (target_named name) moment base list (Ok bytes)
      → (fork : List ℕ) × (fork_of list base.fork.attributes base.fork.reserved ≡ Ok fork) × (AreBytes fork → HasFork base.form bytes fork)
  output_fork list bytes (inl (fork, made, inl (file, named, so))) = (fork, listed_fork base.fork.attributes base.fork.reserved list fork made, reads)
    where
      reads : AreBytes fork → HasFork base.form bytes fork
      reads are =
          let whole = named_kept table base.form name (file_of (target_named name) moment base.file fork) file named (output_kept name moment base.file fork kept are) in
          let carried = back base.form file bytes whole.0 (unbroken (written_of base.form file) bytes (sym so)) in
          let read = alone base.form bytes file.data_fork (carried_of base.form file) carried in
          (read.0, read.1, read.2 ∙ carried_fork base.form file ∙ whole.1)
  output_fork list bytes (inl (fork, made, inr (fault, named, so))) = absurd (ok_or_err {F = Fault} bytes fault so)
  output_fork list bytes (inr (fault, made, so)) = absurd (ok_or_err {F = Fault} bytes fault so)

-- An answer that is done.

pub record Restrung (asked : RestringAsked) (files : Files) (moment : Moment) (base : Base) (output : List ℕ) : Type 0 where
  pub compiled : Compiled
  pub types : TypesAre moment asked.types files (Ok compiled)
  pub entries : List Entry
  pub read : HasCatalogueFile (length compiled.files) asked.catalogue (finite.get files asked.catalogue) (Ok entries)
  pub new : List Resource
  pub applied : Applied compiled.work.types moment asked.over base.fork.list entries (Ok new)
  pub is : IsOutput (target_named asked.output) moment base new (Ok output)

module _ (asked : RestringAsked) (files : Files) (moment : Moment) (bytes : List ℕ) (base : Base) (there : finite.get files asked.file ≡ Some bytes)
    (begins : base_in true asked.from bytes ≡ Ok base) where
  held_base : (other : Base) → base_held asked.from asked.file (finite.get files asked.file) ≡ Ok other → other ≡ base
  held_base other is =
      same_ok {F = Fault} other base (sym is ∙ ap (base_held asked.from asked.file) there ∙ begins)

  restrung_under : (compiled : Compiled) → TypesAre moment asked.types files (Ok compiled) → (output : List ℕ)
      → IsRestrungUnder moment compiled.work.types (length compiled.files) asked files (Ok output) → Restrung asked files moment base output
  restrung_under compiled types output (inl (other, held, inl (entries, read, inl (new, applied, is)))) =
      let same = held_base other held in record {
        compiled = compiled;
        types = types;
        entries = entries;
        read = read;
        new = new;
        applied = subst (λ (b : Base). Applied compiled.work.types moment asked.over b.fork.list entries (Ok new)) same applied;
        is = subst (λ (b : Base). IsOutput (target_named asked.output) moment b new (Ok output)) same is;
      }
  restrung_under compiled types output (inl (other, held, inl (entries, read, inr (fault, bad, is)))) = absurd (ok_or_err {F = Fault} output fault is)
  restrung_under compiled types output (inl (other, held, inr (fault, bad, is))) = absurd (ok_or_err {F = Fault} output fault is)
  restrung_under compiled types output (inr (fault, bad, is)) = absurd (ok_or_err {F = Fault} output fault is)

  pub restrung : (answer : Answer) (output : List ℕ) → AnswersRestring asked files moment answer → answer.outcome ≡ Done
      → answer.writes ≡ record { name = asked.output; bytes = output } ∷ [] → Restrung asked files moment base output
  restrung answer output (Err failing, makes, is) done writes = absurd (not_refused failing.fault (sym (ap (λ (a : Answer). a.outcome) is) ∙ done))
  restrung answer output (Ok making, inr (failing, first, same), is) done writes = absurd (made_or_not making failing same)
  restrung answer output (Ok making, inl (compiled, types, (Err fault, has, same)), is) done writes = absurd (made_or_not making _ same)
  restrung answer output (Ok making, inl (compiled, types, (Ok bytes, has, same)), is) done writes =
      let made : making.bytes ≡ bytes = ap (λ (m : Making). m.bytes) (same_ok {F = Failing} making _ same) in
      let wrote : making.bytes ≡ output = first_bytes _ _ (sym (ap (λ (a : Answer). a.writes) is) ∙ writes) in
      restrung_under compiled types output (subst (λ (l : List ℕ). IsRestrungUnder moment compiled.work.types (length compiled.files) asked files (Ok l)) (sym made ∙ wrote) has)
    where
      first_bytes : (one other : Write) → one ∷ [] ≡ other ∷ [] → one.bytes ≡ other.bytes
      first_bytes one other is = let same : one ≡ other = cc is in ap (λ (w : Write). w.bytes) same
