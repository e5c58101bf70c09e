-- As a row is laid that is spelled, each piece is shown a part of what is finished.
use Rattle.std.proofs.Common.{◌≡◌, ℕ, suc, ◌+◌, ◌++◌, ℤ, Bool, true, false, ◌||◌, List, [], ◌∷◌, length, Option, Some, None, Result, Ok, refl, sym, ap, ◌∙◌, subst, arith}
use Rattle.std.specs.Prelude.{if◌then◌else◌}
use Rattle.std.specs.Option.{is_some, option_to_list}
use Rattle.std.proofs.lemmas.List.{append_assoc, append-nil}
use Rattle.rz_core.specs.Stop.{◌>>=◌}
use Rattle.rz_core.specs.declared.facts.Facts.{Facts}
use Rattle.rz_core.specs.declared.resource.Word.{Word}
use Rattle.rz_bits.specs.Bits.{bits_of}
use Rattle.rz_bits.specs.BitBuf.{missing, zeros}
use Rattle.rz_expr.specs.Environment.{place_of, Environment, IsSeenIn}
use Rattle.rz_layout.proofs.Complete.{array_same, body_counted, entered_fits, field_taken, first_is, met_all_same, others_are, piece_taken, places_back, places_then, points_unplaced, same_behind, unplaced_same, Unplaced}
use Rattle.rz_layout.proofs.Fitting.{met_piece, piece_goes, SamePlaces}
use Rattle.rz_layout.proofs.Labels.{behind_met, label_key, met_all, met_behind, met_entered, met_front, met_rows, label_declared, none_later}
use Rattle.rz_layout.proofs.Placing.{alike_rows, EndsAre}
use Rattle.rz_layout.proofs.Trees.{line_is, rows_are}
use Rattle.rz_laws.proofs.Chains.{chain_parts, one_threads, Chain}
use Rattle.rz_laws.proofs.Drafting.{with_around}
use Rattle.rz_laws.proofs.Listed.{body_threads, field_threads}
use Rattle.rz_laws.proofs.Standing.{chain_all}
use Rattle.rz_laws.proofs.Stands.{behind_in_rows, entered_in_rows, lay_known, placed_in_rows, seen_so, stands_met, InRows, Stands}
use Rattle.rz_laws.specs.Flat.{all_rows, and_end, between, flat, flat_case, flat_field, flat_pieces, flat_row, flat_rows, nothing_drafted, within_bodies, Ends, EndsRows, Lays, Step}
use Rattle.rz_laws.specs.Placed.{bits_in, marks_in, ArePieces, BodyPlaced, CasePlaced, FieldPlaced, InOrderPlaced, InsidePlaced, IsPlaced, LeafPlaced, OnePlaced, Placed, RowsPlaced}
use Rattle.rz_laws.specs.Shown.{AreShown}
use Rattle.rz_types_fields.specs.Field.{case_and, field_and, no_cases, no_fields, takes_value, Align, Array, Fill, Label, Number, PlainBody, PlainCases, PlainField, Points, Switch, Text}
use Rattle.rz_types_fields.specs.Laid.{behind_rows, draft_sight, enter, first_value, leave, line_in, nothing_laid, other_values, rows_in, takes_one, Draft, Refusal}
use Rattle.rz_types_fields.specs.Passed.{at_field, at_front, behind, behind_piece, gives_rows, has_label, nothing_passed, outside, Names, Passed}
use Rattle.rz_types_fields.specs.Piece.{pieces_of, Piece, Place}
use Rattle.rz_types_fields.specs.Row.{By}
use Rattle.rz_types_fields.specs.RowLabels.{row_of, RowOf}
use Rattle.rz_types_fields.specs.Sees.{sees, Late}
use Rattle.rz_types_fields.specs.Spells.{anyhow, is_case, put, values_for, AreRows, Within}
use Rattle.rz_types_fields.specs.declared.tree.Tree.{Tree}
use Rattle.rz_types_fields.specs.declared.tree.Tree.TheVariants as trees

module _ (known : Facts) (all : List Bool) where
  -- what is drafted of a place on, where the drafts after it are shown a part of what is finished
  abbrev Shown : List Draft → List (List Environment) → Draft → List Step → List Placed → Type 0
  Shown around ends draft steps pieces = AreShown known all (with_around around ends draft) steps pieces

  abbrev StandsAt : Environment → Names → ℕ → Late → Draft → Type 0
  StandsAt = Stands known all

  abbrev Chained : List Placed → ℕ → Late → ℕ → Late → Type 0
  Chained = Chain anyhow known all

  -- the steps after a draft
  abbrev Goes_on : Environment → Names → ℕ → Late → List Draft → List (List Environment) → List Step → List Placed → Type 0
  Goes_on names met after late_after around ends steps others = (next : Draft) → StandsAt names met after late_after next → Shown around ends next steps others

  -- Pieces.

  piece_shown : (names : Environment) (passed : Passed) (piece : Piece) (value : Option Tree) (front : List Placed) (at : ℕ) (late : Late) (mid : ℕ) (late_mid : Late)
      → OnePlaced names passed piece value front → Chained front at late mid late_mid → (draft : Draft) → StandsAt names passed.met at late draft
      → (around : List Draft) (ends : List (List Environment)) (steps : List Step) (others : List Placed) → Goes_on names (met_piece piece passed.met) mid late_mid around ends steps others
      → Shown around ends draft (Lays piece value ∷ steps) (front ++ others)
  piece_shown names passed piece value front at late mid late_mid are chain draft stands around ends steps others more =
      let goes = piece_goes known all names passed at late draft stands.fits stands.met_known piece value mid late_mid (one_threads anyhow known all names passed piece value front at late mid late_mid are chain) in
      let link = (subst (λ (ps : List Placed). Chained ps at late mid late_mid) are.3 chain).2 in
      let one : Placed = record { piece = piece; value = value; names = names; passed = passed; at = are.0; bits = are.1; late = are.2 } in
      let seen : IsSeenIn (draft_sight known draft) (sees known all names are.0) =
      subst (λ (k : ℕ). IsSeenIn (draft_sight known draft) (sees known all names k)) (sym link.begins) (seen_so known all names passed.met at late draft stands) in
      let next_rows : InRows goes.next.known =
      subst InRows (sym (lay_known known draft piece value goes.next goes.is)) (placed_in_rows piece (length draft.bits) draft.known stands.in_rows) in
      subst (λ (ps : List Placed). Shown around ends draft (Lays piece value ∷ steps) (ps ++ others)) (sym are.3) (
        others,
        (one, refl, refl, refl, seen),
        with_around around ends goes.next,
        ap (λ (r : Result Draft Refusal). r >>= λ next. Ok (within_bodies (with_around around ends draft) next)) goes.is,
        more goes.next (record { fits = goes.fits; met_known = goes.met_known; in_rows = next_rows }),
      )

  moved : (names : Environment) (met : Names) (at : ℕ) (late : Late) (after : ℕ) (late_after : Late) (draft : Draft) → after ≡ at → late_after ≡ late → StandsAt names met at late draft → StandsAt names met after late_after draft
  moved names met at late after late_after draft same also stands =
      subst (λ (k : ℕ). StandsAt names met k late_after draft) (sym same) (subst (λ (m : Late). StandsAt names met at m draft) (sym also) stands)

  -- the first of the values and the others, where one is taken
  taken : (draft : Draft) (around : List Draft) (ends : List (List Environment)) (takes : Bool) (value : Option Tree) (rest values : List Tree) → values ≡ put value rest → is_some value ≡ takes
      → (steps : Option Tree → List Tree → List Step) (pieces : List Placed) → Shown around ends draft (steps value rest) pieces
      → Shown around ends draft (steps (first_value takes values) (other_values takes values)) pieces
  taken draft around ends takes value rest values are is_taken steps pieces shown =
      subst (λ (v : Option Tree). Shown around ends draft (steps v (other_values takes values)) pieces) (sym (ap (first_value takes) are ∙ first_is takes value rest is_taken))
      (subst (λ (vs : List Tree). Shown around ends draft (steps value vs) pieces) (sym (ap (other_values takes) are ∙ others_are takes value rest is_taken)) shown)

  joined : (draft : Draft) (around : List Draft) (ends : List (List Environment)) (steps : List Step) (front back others pieces : List Placed) → pieces ≡ front ++ back
      → Shown around ends draft steps (front ++ (back ++ others)) → Shown around ends draft steps (pieces ++ others)
  joined draft around ends steps front back others pieces are shown =
      subst (λ (ps : List Placed). Shown around ends draft steps (ps ++ others)) (sym are) (subst (Shown around ends draft steps) (sym (append_assoc front back others)) shown)

  pieces_shown : (names : Environment) (passed : Passed) (pieces : List Piece) → Unplaced pieces → (values : List Tree) (placed : List Placed) (at : ℕ) (late : Late) (after : ℕ) (late_after : Late)
      → InOrderPlaced names passed pieces values placed → Chained placed at late after late_after → (draft : Draft) → StandsAt names passed.met at late draft
      → (around : List Draft) (ends : List (List Environment)) (steps : List Step) (others : List Placed) → Goes_on names passed.met after late_after around ends steps others
      → Shown around ends draft (flat_pieces pieces values ++ steps) (placed ++ others)
  pieces_shown names passed [] none values placed at late after late_after are chain draft stands around ends steps others more =
      let done = subst (λ (ps : List Placed). Chained ps at late after late_after) are.1 chain in
      subst (λ (ps : List Placed). Shown around ends draft steps (ps ++ others)) (sym are.1)
      (more draft (moved names passed.met at late after late_after draft done.0 done.1 stands))
  pieces_shown names passed (piece ∷ pieces) none values placed at late after late_after are chain draft stands around ends steps others more =
      let value = are.0 in
      let rest = are.1 in
      let next_met = (behind_piece piece passed).met in
      let parts = chain_parts anyhow known all are.2 are.3 at late after late_after (subst (λ (ps : List Placed). Chained ps at late after late_after) are.5 chain) in
      let spelled = one_threads anyhow known all names passed piece value are.2 at late parts.0 parts.1 are.6 parts.2 in
      let same = places_then (met_piece piece passed.met) passed.met next_met (unplaced_same piece passed none.0) (same_behind piece passed) in
      joined draft around ends (flat_pieces (piece ∷ pieces) values ++ steps) are.2 are.3 others placed are.5
      (taken draft around ends (takes_one piece) value rest values are.4 (piece_taken known all names passed piece value at parts.0 late parts.1 spelled)
      (λ v vs. Lays piece v ∷ (flat_pieces pieces vs ++ steps)) (are.2 ++ (are.3 ++ others))
      (piece_shown names passed piece value are.2 at late parts.0 parts.1 are.6 parts.2 draft stands around ends (flat_pieces pieces rest ++ steps) (are.3 ++ others)
      (λ next stands_next. pieces_shown names (behind_piece piece passed) pieces none.1 rest are.3 parts.0 parts.1 after late_after are.7 parts.3 next
      (stands_met known all names (met_piece piece passed.met) next_met same parts.0 parts.1 next stands_next) around ends steps others
      (λ last stands_last. more last (stands_met known all names next_met passed.met (places_back passed.met next_met (same_behind piece passed)) after late_after last stands_last)))))

  label_shown : (names : Environment) (passed : Passed) (name : Word) (value : Option Tree) (placed : List Placed) (at : ℕ) (late : Late) (after : ℕ) (late_after : Late)
      → LeafPlaced (Label name) names passed value placed → Chained placed at late after late_after → (draft : Draft) → StandsAt names passed.met at late draft
      → (around : List Draft) (ends : List (List Environment)) (steps : List Step) (others : List Placed) → Goes_on names (met_behind (Label name) passed.met) after late_after around ends steps others
      → Shown around ends draft (flat_field (Label name) value ++ steps) (placed ++ others)
  label_shown names passed name value placed at late after late_after (grouped, are) chain draft stands around ends steps others more =
      let parts = chain_parts anyhow known all are.2 are.3 at late after late_after (subst (λ (ps : List Placed). Chained ps at late after late_after) are.5 chain) in
      let spelled = one_threads anyhow known all names passed (Place name) are.0 are.2 at late parts.0 parts.1 are.6 parts.2 in
      let done = subst (λ (ps : List Placed). Chained ps parts.0 parts.1 after late_after) are.7.1 parts.3 in
      joined draft around ends (flat_field (Label name) value ++ steps) are.2 are.3 others placed are.5
      (taken draft around ends false are.0 are.1 (option_to_list value) are.4 (piece_taken known all names passed (Place name) are.0 at parts.0 late parts.1 spelled)
      (λ v vs. Lays (Place name) v ∷ steps) (are.2 ++ (are.3 ++ others))
      (piece_shown names passed (Place name) are.0 are.2 at late parts.0 parts.1 are.6 parts.2 draft stands around ends steps (are.3 ++ others)
      (λ next stands_next. subst (λ (ps : List Placed). Shown around ends next steps (ps ++ others)) (sym are.7.1)
      (more next (moved names (met_behind (Label name) passed.met) parts.0 parts.1 after late_after next done.0 done.1 stands_next)))))

  -- Bodies within.

  abbrev BodyShown : PlainBody → Type 0
  BodyShown body = (passed : Passed) (own : Environment) (values : List Tree) (placed : List Placed) (at : ℕ) (late : Late) (after : ℕ) (late_after : Late)
      → BodyPlaced body own passed values placed → Chained placed at late after late_after → (draft : Draft) → StandsAt own passed.met at late draft
      → (around : List Draft) (ends : List (List Environment)) (steps : List Step) (others : List Placed) → Goes_on own (met_all body passed.met) after late_after around ends steps others
      → Shown around ends draft (flat body values ++ steps) (placed ++ others)

  -- a label directly in a row has the place at its end that it has in the end
  abbrev HaveLabels : PlainBody → Environment → Environment → Type 0
  HaveLabels row own known = (label : List ℕ) → has_label row label ≡ true → own.give (place_of label) ≡ known.give (place_of label)

  inside_shown : (row : PlainBody) → BodyShown row → (passed : Passed) (which : Option RowOf) (names own : Environment) (line : List Tree) (placed : List Placed) (at : ℕ) (late : Late) (after : ℕ) (late_after : Late)
      → Within row which names own → BodyPlaced row own (at_front row passed) line placed → Chained placed at late after late_after → (draft : Draft) → StandsAt names passed.met at late draft
      → (around : List Draft) (ends : List (List Environment)) (steps : List Step) (others : List Placed)
      → ((inner : Draft) → HaveLabels row own inner.known → StandsAt names passed.met after late_after (leave which row draft inner)
      → Shown around (and_end which inner.known ends) (leave which row draft inner) steps others)
      → Shown around ends draft (between which row line (flat row line) ++ steps) (placed ++ others)
  inside_shown row goes passed which names own line placed at late after late_after within are chain draft stands around ends steps others more =
      let spelled = body_threads anyhow known all row own (at_front row passed) line placed at late after late_after are chain in
      let counted = body_counted known all own (at_front row passed) row line at after late late_after spelled in
      let front : Draft = enter which row line draft in (
        placed ++ others,
        refl,
        with_around (draft ∷ around) ends front,
        refl,
        subst (λ (ss : List Step). Shown (draft ∷ around) ends front ss (placed ++ others)) (sym (append_assoc (flat row line) (Ends which row ∷ []) steps))
            (goes (at_front row passed) own line placed at late after late_after are chain front (record {
              fits = entered_fits known all row which names own passed.met line at late draft within counted stands.fits;
              met_known = met_entered which row line passed.met draft.known stands.met_known;
              in_rows = entered_in_rows which row line draft.known stands.in_rows;
            }) (draft ∷ around) ends (Ends which row ∷ steps) others
            (λ inner it. (others, refl, with_around around (and_end which inner.known ends) (leave which row draft inner), refl, more inner (labels inner it) (left inner it)))),
      )
    where
      labels : (inner : Draft) → StandsAt own (met_all row (met_front row passed.met)) after late_after inner → HaveLabels row own inner.known
      labels inner it label is = sym (it.fits.names_are.names (place_of label) refl (none_later row (met_front row passed.met) (place_of label) (label_declared row label is)))

      left : (inner : Draft) → StandsAt own (met_all row (met_front row passed.met)) after late_after inner → StandsAt names passed.met after late_after (leave which row draft inner)
      left inner it = record {
        fits = record { bits = it.fits.bits; len = it.fits.len; late_is = it.fits.late_is; marks = it.fits.marks; within = it.fits.within; names_are = stands.fits.names_are };
        met_known = stands.met_known;
        in_rows = stands.in_rows;
      }

  abbrev RowSteps : PlainBody → Option Word → ℕ → List Tree → List Step
  RowSteps row name number line = between (row_of name number) row line (flat row line)

  abbrev LinePlaced : PlainBody → Option Word → Environment → Passed → ℕ → List Tree → ArePieces
  LinePlaced row name names passed number line = InsidePlaced row (row_of name number) names (λ own. BodyPlaced row own (at_front row passed) line)

  rows_shown : (name : Option Word) (row : PlainBody) → BodyShown row → (passed : Passed) (names : Environment) (rows : List (List Tree)) (number : ℕ) (placed : List Placed) (at : ℕ) (late : Late) (after : ℕ) (late_after : Late)
      → RowsPlaced (LinePlaced row name names passed) number rows placed → Chained placed at late after late_after → (draft : Draft) → StandsAt names passed.met at late draft
      → (around : List Draft) (before : List Environment) (ends : List (List Environment)) (steps : List Step) (others : List Placed)
      → ((next : Draft) → StandsAt names passed.met after late_after next → (own : List Environment) → length own ≡ length rows → EndsAre row names number own → Shown around ((before ++ own) ∷ ends) next steps others)
      → Shown around (before ∷ ends) draft (flat_rows (RowSteps row name) number rows ++ steps) (placed ++ others)
  rows_shown name row goes passed names [] number placed at late after late_after are chain draft stands around before ends steps others more =
      let done = subst (λ (ps : List Placed). Chained ps at late after late_after) are chain in
      subst (λ (ps : List Placed). Shown around (before ∷ ends) draft steps (ps ++ others)) (sym are)
      (subst (λ (nearest : List Environment). Shown around (nearest ∷ ends) draft steps others) (append-nil before)
      (more draft (moved names passed.met at late after late_after draft done.0 done.1 stands) [] refl tt))
  rows_shown name row goes passed names (line ∷ rows) number placed at late after late_after (front, back, are, (own, within, body), lines) chain draft stands around before ends steps others more =
      let parts = chain_parts anyhow known all front back at late after late_after (subst (λ (ps : List Placed). Chained ps at late after late_after) are chain) in
      joined draft around (before ∷ ends) (flat_rows (RowSteps row name) number (line ∷ rows) ++ steps) front back others placed are
      (subst (λ (ss : List Step). Shown around (before ∷ ends) draft ss (front ++ (back ++ others))) (sym (append_assoc (RowSteps row name number line) (flat_rows (RowSteps row name) (number + 1) rows) steps))
      (inside_shown row goes passed (row_of name number) names own line front at late parts.0 parts.1 within body parts.2 draft stands around (before ∷ ends) (flat_rows (RowSteps row name) (number + 1) rows ++ steps) (back ++ others)
      (λ inner labels stands_next. rows_shown name row goes passed names rows (number + 1) back parts.0 parts.1 after late_after lines parts.3 (leave (row_of name number) row draft inner) stands_next around (before ++ inner.known ∷ []) ends steps others
      (λ last stands_last own_ends many ends_are. subst (λ (nearest : List Environment). Shown around (nearest ∷ ends) last steps others) (sym (append_assoc before (inner.known ∷ []) own_ends))
      (more last stands_last (inner.known ∷ own_ends) (ap suc many) ((λ label is. within.places label is ∙ labels label is), ends_are))))))

  -- Fields.

  abbrev FieldShown : PlainField → Type 0
  FieldShown field = (passed : Passed) (names : Environment) (value : Option Tree) (placed : List Placed) (at : ℕ) (late : Late) (after : ℕ) (late_after : Late)
      → FieldPlaced field names passed value placed → Chained placed at late after late_after → (draft : Draft) → StandsAt names passed.met at late draft
      → (around : List Draft) (ends : List (List Environment)) (steps : List Step) (others : List Placed) → Goes_on names (met_behind field passed.met) after late_after around ends steps others
      → Shown around ends draft (flat_field field value ++ steps) (placed ++ others)

  abbrev CasesShown : PlainCases → Type 0
  CasesShown cases = (passed : Passed) (names : Environment) (value : Option Tree) (placed : List Placed) (at : ℕ) (late : Late) (after : ℕ) (late_after : Late)
      → CasePlaced cases names passed value placed → Chained placed at late after late_after → (draft : Draft) → StandsAt names passed.met at late draft
      → (around : List Draft) (ends : List (List Environment)) (steps : List Step) (others : List Placed) → Goes_on names passed.met after late_after around ends steps others
      → Shown around ends draft (flat_case cases value ++ steps) (placed ++ others)

  array_shown : (name : Option Word) (count : Option ℤ) (row : PlainBody) → BodyShown row → FieldShown (Array name count row)
  array_shown name count row goes passed names value placed at late after late_after (rows, is, stated, counts, rows_are_so, lines) chain draft stands around ends steps others more =
      subst (λ (rs : List (List Tree)). Shown around ends draft (all_rows row (flat_rows (RowSteps row name) 1 rs) ++ steps) (placed ++ others)) (sym (ap rows_in is ∙ rows_are rows)) (
        placed ++ others,
        refl,
        with_around around ([] ∷ ends) draft,
        refl,
        subst (λ (ss : List Step). Shown around ([] ∷ ends) draft ss (placed ++ others)) (sym (append_assoc (flat_rows (RowSteps row name) 1 rows) (EndsRows row ∷ []) steps))
            (rows_shown name row goes passed names rows 1 placed at late after late_after lines chain draft stands around [] ends (EndsRows row ∷ steps) others
            (λ next stands_next own many ends_are. (
              others,
              refl,
              with_around around ends (behind_rows row (record { draft = next; ends = own })),
              refl,
              more (behind_rows row (record { draft = next; ends = own })) (ended next stands_next own many ends_are),
            ))),
      )
    where
      ended : (next : Draft) → StandsAt names passed.met after late_after next → (own : List Environment) → length own ≡ length rows → EndsAre row names 1 own
          → StandsAt names (met_behind (Array name count row) passed.met) after late_after (behind_rows row (record { draft = next; ends = own }))
      ended next it own many ends_are =
          stands_met known all names (λ key. gives_rows row key || passed.met key) (met_behind (Array name count row) passed.met) (array_same name count row passed.met) after late_after (behind_rows row (record { draft = next; ends = own })) (record {
            fits = record {
              bits = it.fits.bits;
              len = it.fits.len;
              late_is = it.fits.late_is;
              marks = it.fits.marks;
              within = it.fits.within;
              names_are = alike_rows row own passed.met next.known names (subst (λ (n : ℕ). AreRows row n names) (sym many) rows_are_so) ends_are it.fits.names_are;
            };
            met_known = met_rows row own passed.met next.known it.met_known;
            in_rows = behind_in_rows row own next.known it.in_rows;
          })

  case_shown : (row : PlainBody) → BodyShown row → (passed : Passed) (names : Environment) (name : Word) (value : Option Tree) (placed : List Placed) (at : ℕ) (late : Late) (after : ℕ) (late_after : Late)
      → (line : List Tree) × (value ≡ Some (trees.Choice name line)) × InsidePlaced row None names (λ own. BodyPlaced row own (at_front row passed) line) placed
      → Chained placed at late after late_after → (draft : Draft) → StandsAt names passed.met at late draft
      → (around : List Draft) (ends : List (List Environment)) (steps : List Step) (others : List Placed) → Goes_on names passed.met after late_after around ends steps others
      → Shown around ends draft (between None row (line_in value) (flat row (line_in value)) ++ steps) (placed ++ others)
  case_shown row goes passed names name value placed at late after late_after (line, is, (own, within, body)) chain draft stands around ends steps others more =
      subst (λ (l : List Tree). Shown around ends draft (between None row l (flat row l) ++ steps) (placed ++ others)) (sym (ap line_in is ∙ line_is name line))
      (inside_shown row goes passed None names own line placed at late after late_after within body chain draft stands around ends steps others
      (λ inner labels stands_next. more (leave None row draft inner) stands_next))

  by_case : (This Other : Type 0) (draft : Draft) (around : List Draft) (ends : List (List Environment)) (this other steps : List Step) (pieces : List Placed)
      → (This → Shown around ends draft (this ++ steps) pieces) → (Other → Shown around ends draft (other ++ steps) pieces)
      → (test : Bool) → By test This Other → Shown around ends draft ((if test then this else other) ++ steps) pieces
  by_case This Other draft around ends this other steps pieces one more true it = one it
  by_case This Other draft around ends this other steps pieces one more false it = more it

  mutual
    field_shown : (field : PlainField) → FieldShown field
    field_shown (Number number) passed names value placed at late after late_after are = pieces_shown names passed (pieces_of (Number number)) (refl, tt) (values_for (Number number) value) placed at late after late_after are.1
    field_shown (Text text) passed names value placed at late after late_after are = pieces_shown names passed (pieces_of (Text text)) (refl, tt) (values_for (Text text) value) placed at late after late_after are.1
    field_shown (Points points) passed names value placed at late after late_after are =
        pieces_shown names passed (pieces_of (Points points)) (points_unplaced points.rect points.fixed) (values_for (Points points) value) placed at late after late_after are.1
    field_shown (Fill unit count) passed names value placed at late after late_after are = pieces_shown names passed (pieces_of (Fill unit count)) (refl, tt) (values_for (Fill unit count) value) placed at late after late_after are.1
    field_shown (Align unit) passed names value placed at late after late_after are = pieces_shown names passed (pieces_of (Align unit)) (refl, tt) (values_for (Align unit) value) placed at late after late_after are.1
    field_shown (Label name) passed names value placed at late after late_after are = label_shown names passed name value placed at late after late_after are
    field_shown (Array name count row) passed names value placed at late after late_after are = array_shown name count row (body_shown row) passed names value placed at late after late_after are
    field_shown (Switch cases) passed names value placed at late after late_after are = cases_shown cases passed names value placed at late after late_after are

    cases_shown : (cases : PlainCases) → CasesShown cases
    cases_shown no_cases passed names value placed at late after late_after are chain draft stands around ends steps others more = absurd are
    cases_shown (case_and name row cases) passed names value placed at late after late_after are chain draft stands around ends steps others more =
        by_case ((line : List Tree) × (value ≡ Some (trees.Choice name line)) × InsidePlaced row None names (λ own. BodyPlaced row own (at_front row passed) line) placed)
        (CasePlaced cases names passed value placed) draft around ends (between None row (line_in value) (flat row (line_in value))) (flat_case cases value) steps (placed ++ others)
        (λ one. case_shown row (body_shown row) passed names name value placed at late after late_after one chain draft stands around ends steps others more)
        (λ other. cases_shown cases passed names value placed at late after late_after other chain draft stands around ends steps others more)
        (is_case name value) are

    body_shown : (body : PlainBody) → BodyShown body
    body_shown no_fields passed own values placed at late after late_after are chain draft stands around ends steps others more =
        let done = subst (λ (ps : List Placed). Chained ps at late after late_after) are.1 chain in
        subst (λ (ps : List Placed). Shown around ends draft steps (ps ++ others)) (sym are.1) (more draft (moved own passed.met at late after late_after draft done.0 done.1 stands))
    body_shown (field_and field fields) passed own values placed at late after late_after (value, rest, front, back, values_are, placed_are, one, behind_one) chain draft stands around ends steps others more =
        let here = at_field (field_and field fields) passed in
        let met = met_behind field passed.met in
        let next_met = (behind field here).met in
        let same : SamePlaces met next_met = λ in_rows name. ap (λ (names : Names). names (label_key in_rows name)) (sym (behind_met field here)) in
        let parts = chain_parts anyhow known all front back at late after late_after (subst (λ (ps : List Placed). Chained ps at late after late_after) placed_are chain) in
        let spelled = field_threads anyhow known all field own here value front at late parts.0 parts.1 one parts.2 in
        joined draft around ends (flat (field_and field fields) values ++ steps) front back others placed placed_are
        (taken draft around ends (takes_value field) value rest values values_are (field_taken known all own here field value at parts.0 late parts.1 spelled)
        (λ v vs. (flat_field field v ++ flat fields vs) ++ steps) (front ++ (back ++ others))
        (subst (λ (ss : List Step). Shown around ends draft ss (front ++ (back ++ others))) (sym (append_assoc (flat_field field value) (flat fields rest) steps))
        (field_shown field here own value front at late parts.0 parts.1 one parts.2 draft stands around ends (flat fields rest ++ steps) (back ++ others)
        (λ next stands_next. body_shown fields (behind field here) own rest back parts.0 parts.1 after late_after behind_one parts.3 next (stands_met known all own met next_met same parts.0 parts.1 next stands_next) around ends steps others
        (λ last stands_last. more last (stands_met known all own (met_all fields next_met) (met_all fields met) (met_all_same fields next_met met (places_back met next_met same)) after late_after last stands_last))))))

module _ (known : Facts) (body : PlainBody) (row : List Tree) (bytes : List ℕ) (it : IsPlaced anyhow known body row bytes) where
  abbrev all : List Bool
  all = bits_of bytes

  nothing_stands : Stands known all outside nothing_passed.met 0 [] nothing_laid
  nothing_stands = record {
    fits = record { bits = refl; len = refl; late_is = refl; marks = refl; within = omega arith; names_are = record { names = λ key single now. refl; places = λ label rows number was is inside. refl } };
    met_known = λ in_rows name. refl;
    in_rows = λ label number value is. absurd cc;
  }

  pub shown_so : AreShown known all nothing_drafted (flat_row body row) it.pieces
  shown_so =
      let chain = chain_all anyhow known all it.pieces (zeros (missing 8 (length (bits_in it.pieces)))) it.all it.short it.stand in
      subst (λ (ss : List Step). AreShown known all nothing_drafted ss it.pieces) (append-nil (flat_row body row))
      (subst (λ (ps : List Placed). AreShown known all nothing_drafted (flat_row body row ++ []) ps) (append-nil it.pieces)
      (inside_shown known all body (body_shown known all body) nothing_passed None outside it.of_row.0 row it.pieces 0 [] (length (bits_in it.pieces)) (marks_in it.pieces)
      it.of_row.1 it.of_row.2 chain nothing_laid nothing_stands [] [] [] [] (λ inner labels stands. refl)))
