-- A conditional whose `#endif` is missing where the file ends.
use Rattle.std.proofs.Common.{◌≡◌, ◌&&◌, true, false, List, [], ◌∷◌, None, Some, refl}
use Rattle.std.specs.declared.result.Result.{Result}
use Rattle.rz_core.specs.Answers.{Then}
use Rattle.rz_core.specs.declared.fault.Mark.{Mark}
use Rattle.rz_lex.specs.declared.raw_line.RawLine.{RawLine}
use Rattle.rz_pre_laws.specs.Groups.{are_others, is_elif, is_else, is_endif, is_group, is_opening, kind, lines_of, lines_unclosed, waiting, Chooses, Group, GroupGoes, Holds, Others, OthersGo}
use Rattle.rz_pre_laws.specs.Groups as groups
use Rattle.rz_pre.specs.Line.{is_kept, Does}
use Rattle.rz_pre.specs.Program.{fails, innermost, open_if, Includes, LinesGo, State, WithFiles}
use Rattle.rz_pre.specs.declared.program.Failure.{Failure}
use Rattle.rz_pre.specs.declared.act.Act.TheVariants as acts
use Rattle.rz_pre.specs.declared.condition.Tool.{Tool}
use Rattle.rz_pre.specs.declared.conditional.Open.{Open}
use Rattle.rz_pre.specs.declared.conditional.Part.{Part}
use Rattle.rz_pre.specs.declared.conditional.Part.TheVariants.{Chosen, Past, Waiting}
use Rattle.rz_pre_laws.proofs.Chosen.{asked, both, elif_does, elif_past, elif_tests, else_does, else_past, group_goes, is_late, last_open, later_open, on, opening_does, opening_tests, pair, passed, same, settled, then_is, then_next, then_then, turn, where_kept, where_unkept, GoesOn, Same}

module _ (Reads : Includes) (tool : Tool) where
  abbrev Goes : List RawLine → List Open → State → Result State Failure → Type 0
  Goes lines opens s = LinesGo Reads tool lines None opens s

  -- 105 after what was read
  abbrev IsOpen : Mark → State → Result State Failure → Type 0
  IsOpen m t answer = answer ≡ fails (open_if (waiting m)) t

  passed_unclosed : (others : Others) (m : Mark) (part : Part) (opens : List Open) (s : State) → are_others others ≡ true → is_late part ≡ true
      → Same (IsOpen m s) (Goes (lines_unclosed others) (later_open m part ∷ opens) s)
  passed_unclosed (groups.End last) m choice opens s good late = same
  passed_unclosed (groups.Else line body last) m part opens s good late =
      let h = both (is_else (kind line) && is_group body) (is_endif (kind last)) good in
      let i = both (is_else (kind line)) (is_group body) h.0 in
      on (passed Reads tool body [] None (last_open m Past ∷ opens) s i.1 refl)
      (settled Reads tool line (lines_of body []) None (later_open m part ∷ opens) (last_open m Past ∷ opens) s (acts.Turn Past true) (else_past Reads tool s.live line m part late i.0) same)
  passed_unclosed (groups.Elif test body others) m part opens s good late =
      let h = both (is_elif (kind test) && is_group body) (are_others others) good in
      let i = both (is_elif (kind test)) (is_group body) h.0 in
      on (passed_unclosed others m Past opens s h.1 refl)
      (on (passed Reads tool body (lines_unclosed others) None (later_open m Past ∷ opens) s i.1 refl)
      (settled Reads tool test (lines_of body (lines_unclosed others)) None (later_open m part ∷ opens) (later_open m Past ∷ opens) s (acts.Turn Past false) (elif_past Reads tool s.live test m part late i.0) same))

  others_unclosed : (others : Others) (m : Mark) (opens : List Open) (s : State) → are_others others ≡ true
      → Same (Then (OthersGo Reads tool others s) (IsOpen m)) (Goes (lines_unclosed others) (waiting m ∷ opens) s)
  others_unclosed (groups.End last) m opens s good = then_is s (IsOpen m)
  others_unclosed (groups.Else line body last) m opens s good =
      let h = both (is_else (kind line) && is_group body) (is_endif (kind last)) good in
      let i = both (is_else (kind line)) (is_group body) h.0 in
      on (group_goes Reads tool body [] None (last_open m Chosen ∷ opens) s i.1 refl)
      (settled Reads tool line (lines_of body []) None (waiting m ∷ opens) (last_open m Chosen ∷ opens) s (acts.Turn Chosen true) (else_does Reads tool s.live line (Some (waiting m)) i.0) same)
  others_unclosed (groups.Elif test body others) m opens s good =
      let h = both (is_elif (kind test) && is_group body) (are_others others) good in
      let i = both (is_elif (kind test)) (is_group body) h.0 in
      let more : List RawLine = lines_unclosed others in
      asked Reads tool test (Some (waiting test.mark)) (λ part. acts.Turn part false) (GroupGoes Reads tool body s) (OthersGo Reads tool others s) (IsOpen m) (lines_of body more) None (waiting m ∷ opens) s
      (elif_does Reads tool s.live test test.mark m i.0) (elif_tests Reads tool s.live test test.mark i.0)
      (on (then_next (GroupGoes Reads tool body s) (IsOpen m) (Goes more (later_open m Chosen ∷ opens)) (λ t went. passed_unclosed others m Chosen opens t h.1 refl))
      (on (group_goes Reads tool body more None (later_open m Chosen ∷ opens) s i.1 refl) (turn (then_is (pair Reads tool (later_open m Chosen ∷ opens) s) (GoesOn Reads tool (lines_of body more) None)))))
      (on (others_unclosed others m opens s h.1)
      (on (passed Reads tool body more None (later_open m Waiting ∷ opens) s i.1 refl) (turn (then_is (pair Reads tool (later_open m Waiting ∷ opens) s) (GoesOn Reads tool (lines_of body more) None)))))

  module _ (test : RawLine) (first : Group) (others : Others) (opens : List Open) (s : State) (good : is_group (groups.Choice test first others groups.Done) ≡ true) where
    opens_well : (is_opening (kind test) ≡ true) × (is_group first ≡ true) × (are_others others ≡ true)
    opens_well =
        let h = both (is_opening (kind test) && is_group first && are_others others) true good in
        let i = both (is_opening (kind test) && is_group first) (are_others others) h.0 in
        let j = both (is_opening (kind test)) (is_group first) i.0 in
        (j.0, j.1, i.1)

    read_unclosed : is_kept (innermost opens) ≡ true
        → Same (Then (GroupGoes Reads tool (groups.Choice test first others groups.Done) s) (IsOpen test.mark)) (Goes (test ∷ lines_of first (lines_unclosed others)) opens s)
    read_unclosed kept =
        let w = opens_well in
        let more : List RawLine = lines_unclosed others in
        let asks = Then (WithFiles s.files (Holds (Does s.live tool None test) (λ part. acts.Begin part))) (Chooses (GroupGoes Reads tool first s) (OthersGo Reads tool others s)) in
        on (then_then asks (GroupGoes Reads tool groups.Done) (IsOpen test.mark))
        (on (then_next asks (λ t. Then (GroupGoes Reads tool groups.Done t) (IsOpen test.mark)) (IsOpen test.mark) (λ t went. then_is t (IsOpen test.mark)))
        (asked Reads tool test None (λ part. acts.Begin part) (GroupGoes Reads tool first s) (OthersGo Reads tool others s) (IsOpen test.mark) (lines_of first more) None opens s
        (turn (on (opening_does Reads tool s.live test (innermost opens) w.0) (where_kept (is_kept (innermost opens)) (Does s.live tool None test) (acts.Begin Past) kept)))
        (opening_tests Reads tool s.live test w.0)
        (on (then_next (GroupGoes Reads tool first s) (IsOpen test.mark) (Goes more (later_open test.mark Chosen ∷ opens)) (λ t went. passed_unclosed others test.mark Chosen opens t w.2 refl))
        (on (group_goes Reads tool first more None (later_open test.mark Chosen ∷ opens) s w.1 refl) (turn (then_is (pair Reads tool (later_open test.mark Chosen ∷ opens) s) (GoesOn Reads tool (lines_of first more) None)))))
        (on (others_unclosed others test.mark opens s w.2)
        (on (passed Reads tool first more None (later_open test.mark Waiting ∷ opens) s w.1 refl) (turn (then_is (pair Reads tool (later_open test.mark Waiting ∷ opens) s) (GoesOn Reads tool (lines_of first more) None)))))))

    unread_unclosed : is_kept (innermost opens) ≡ false → Same (IsOpen test.mark s) (Goes (test ∷ lines_of first (lines_unclosed others)) opens s)
    unread_unclosed unkept =
        let w = opens_well in
        on (passed_unclosed others test.mark Past opens s w.2 refl)
        (on (passed Reads tool first (lines_unclosed others) None (later_open test.mark Past ∷ opens) s w.1 refl)
        (settled Reads tool test (lines_of first (lines_unclosed others)) None opens (later_open test.mark Past ∷ opens) s (acts.Begin Past)
        (on (opening_does Reads tool s.live test (innermost opens) w.0) (where_unkept (is_kept (innermost opens)) (Does s.live tool None test) (acts.Begin Past) unkept)) same))

    pub read_there : is_kept (innermost opens) ≡ true → (answer : Result State Failure)
        → Then (GroupGoes Reads tool (groups.Choice test first others groups.Done) s) (IsOpen test.mark) answer → Goes (test ∷ lines_of first (lines_unclosed others)) opens s answer
    read_there kept = (read_unclosed kept).there

    pub read_back : is_kept (innermost opens) ≡ true → (answer : Result State Failure)
        → Goes (test ∷ lines_of first (lines_unclosed others)) opens s answer → Then (GroupGoes Reads tool (groups.Choice test first others groups.Done) s) (IsOpen test.mark) answer
    read_back kept = (read_unclosed kept).back

    pub unread_there : is_kept (innermost opens) ≡ false → (answer : Result State Failure) → IsOpen test.mark s answer → Goes (test ∷ lines_of first (lines_unclosed others)) opens s answer
    unread_there unkept = (unread_unclosed unkept).there

    pub unread_back : is_kept (innermost opens) ≡ false → (answer : Result State Failure) → Goes (test ∷ lines_of first (lines_unclosed others)) opens s answer → IsOpen test.mark s answer
    unread_back unkept = (unread_unclosed unkept).back
