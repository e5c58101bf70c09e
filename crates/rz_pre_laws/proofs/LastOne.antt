-- The last definition of a name decides what it stands for.
use Rattle.std.proofs.Common.{◌≡◌, ℕ, Bool, true, List, [], ◌∷◌, ◌++◌, map, reverse, Option, None, refl, sym, ap, subst, ◌∙◌, append_assoc}
use Rattle.std.specs.Prelude.{if◌then◌else◌, option_map}
use Rattle.std.specs.Str.{bytes_eq, str_to_ascii_lowercase}
use Rattle.std.proofs.lemmas.List.{append-nil, reverse-append}
use Rattle.std.proofs.lemmas.Slice.Eq.{bytes_eq-Decides}
use Rattle.rz_lex.specs.declared.token.Shape.{Shape}
use Rattle.rz_pre_laws.specs.Definitions.{defined_in, definitions, worded, LeavesName}
use Rattle.rz_pre.specs.Expand.{Expansion}
use Rattle.rz_pre.specs.Live.{live_in, put, shapes_of, Live, Row}
use Rattle.rz_pre.specs.Program.{live_after, nothing_live, start, with_file, State}
use Rattle.rz_pre_laws.specs.Unfolding.{behind_all, Entry, Line, Opened}
use Rattle.rz_pre.specs.declared.act.Act.TheVariants as acts
use Rattle.rz_pre.specs.declared.program.Def.{Def}
use Rattle.rz_pre_laws.proofs.Expands.{every_token_expands}

-- Rows, the last one first.

last_first : (row : Row) (rows others : List Row) → reverse (row ∷ rows) ++ others ≡ reverse rows ++ (row ∷ others)
last_first row rows others = ap (λ (rs : List Row). rs ++ others) (reverse-append (row ∷ []) rows) ∙ append_assoc (reverse rows) (row ∷ []) others

worded_rows : (defs : List Def) (live : Live) (rows : List Row) → live ≡ live_in rows → live_after defs live ≡ live_in (reverse (map worded defs) ++ rows)
worded_rows [] live rows is = is
worded_rows (def ∷ defs) live rows is =
    worded_rows defs (put (worded def).0 (worded def).1 live) (worded def ∷ rows) (ap (λ (l : Live). put (worded def).0 (worded def).1 l) is)
    ∙ ap live_in (sym (last_first (worded def) (map worded defs) rows))

entries_rows : (entries : List Entry) (s : State) (rows : List Row) → s.live ≡ live_in rows → (behind_all entries s).live ≡ live_in (reverse (defined_in entries) ++ rows)
entries_rows [] s rows is = is
entries_rows (Opened name ∷ entries) s rows is = entries_rows entries (with_file name s) rows is
entries_rows (Line level around line (acts.Set word body) ∷ entries) s rows is =
    let key = str_to_ascii_lowercase word.bytes in
    let own = option_map shapes_of body in
    entries_rows entries (record s { live = put key own s.live }) ((key, own) ∷ rows) (ap (λ (l : Live). put key own l) is)
    ∙ ap live_in (sym (last_first (key, own) (defined_in entries) rows))
entries_rows (Line level around line (acts.Put tokens) ∷ entries) s rows is = entries_rows entries (record s { tokens = s.tokens ++ tokens }) rows is
entries_rows (Line level around line acts.Nothing ∷ entries) s rows is = entries_rows entries s rows is
entries_rows (Line level around line (acts.Include name) ∷ entries) s rows is = entries_rows entries s rows is
entries_rows (Line level around line (acts.Begin first) ∷ entries) s rows is = entries_rows entries s rows is
entries_rows (Line level around line (acts.Turn next is_last) ∷ entries) s rows is = entries_rows entries s rows is
entries_rows (Line level around line acts.End ∷ entries) s rows is = entries_rows entries s rows is

pub all_rows : (defs : List Def) (entries : List Entry) → (behind_all entries (start defs)).live ≡ live_in (reverse (definitions defs entries))
all_rows defs entries =
    entries_rows entries (start defs) (reverse (map worded defs)) (worded_rows defs nothing_live [] refl ∙ ap live_in (append-nil (reverse (map worded defs))))
    ∙ ap live_in (sym (reverse-append (map worded defs) (defined_in entries)))

-- Rows of other names are passed over.

passed : (name : List ℕ) (rows others : List Row) → LeavesName name rows → live_in (reverse rows ++ others) name ≡ live_in others name
passed name [] others leaves = refl
passed name (row ∷ rows) others leaves =
    ap (λ (rs : List Row). live_in rs name) (last_first row rows others)
    ∙ passed name rows (row ∷ others) leaves.1
    ∙ ap (λ (b : Bool). if b then row.1 else live_in others name) leaves.0

same_name : (name : List ℕ) → bytes_eq name name ≡ true
same_name name = (bytes_eq-Decides name name).1 refl

pub decided : (defs : List Def) (entries : List Entry) (name : List ℕ) (front rear : List Row) (body : Option (List Shape))
    → definitions defs entries ≡ front ++ (name, body) ∷ rear → LeavesName name rear → (behind_all entries (start defs)).live name ≡ body
decided defs entries name front rear body is leaves =
    ap (λ (live : Live). live name) (all_rows defs entries)
    ∙ ap (λ (rows : List Row). live_in (reverse rows) name) is
    ∙ ap (λ (rows : List Row). live_in rows name) (reverse-append front ((name, body) ∷ rear) ∙ last_first (name, body) rear (reverse front))
    ∙ passed name rear ((name, body) ∷ reverse front) leaves
    ∙ ap (λ (b : Bool). if b then body else live_in (reverse front) name) (same_name name)

pub undecided : (defs : List Def) (entries : List Entry) (name : List ℕ) → LeavesName name (definitions defs entries) → (behind_all entries (start defs)).live name ≡ None
undecided defs entries name leaves =
    ap (λ (live : Live). live name) (all_rows defs entries)
    ∙ ap (λ (rows : List Row). live_in rows name) (sym (append-nil (reverse (definitions defs entries))))
    ∙ passed name (definitions defs entries) [] leaves

pub expands_behind : (defs : List Def) (entries : List Entry) (shape : Shape)
    → (out : List Shape) × (work : ℕ) × Expansion (behind_all entries (start defs)).live shape out work
expands_behind defs entries shape =
    subst (λ (live : Live). (out : List Shape) × (work : ℕ) × Expansion live shape out work) (sym (all_rows defs entries)) (every_token_expands (reverse (definitions defs entries)) shape)
