-- A path gives one name, and a file is named in one way.
use Rattle.std.proofs.Common.{◌≡◌, ℕ, List, ◌++◌, Ok, sym, ap, subst, ◌∙◌}
use Rattle.std.specs.declared.result.Result.{Result}
use Rattle.rz_core.proofs.Once.{err, ok, once_is, once_then}
use Rattle.rz_core.specs.declared.fault.Fault.{Fault}
use Rattle.rz_folder.specs.Temporary.{IsParted}
use Rattle.rz_pre_source.specs.Source.{mark, IsTextOf}
use Rattle.rz_bridge.specs.declared.file.MacFile.{MacFile}
use Rattle.rz_bridge_files.specs.declared.form.Form.{Form}
use Rattle.rz_bridge_files.specs.Names.{bad_name, Named, TakesName}
use Rattle.rz_bridge_files.specs.Names.Named.{own, raw, taken}
use Rattle.rz_bridge_files.specs.Names.TakesName.{foreign, roman}

-- from the laws that a path parts in one way and that a text has one form in Mac Roman
module _ (parts : (path folder last twin behind : List ℕ) → IsParted path folder last → IsParted path twin behind → (folder ≡ twin) × (last ≡ behind))
    (texts : (source text other : List ℕ) → IsTextOf source text → IsTextOf source other → text ≡ other) where
  pub one_name : (path : List ℕ) (one other : Result (List ℕ) Fault) → TakesName path one → TakesName path other → one ≡ other
  one_name path one other (roman folder last name parted text is) (roman twin behind also parted_too text_too too) =
      is ∙ ap ok (texts (mark ++ behind) name also (subst (λ (l : List ℕ). IsTextOf (mark ++ l) name) (parts path folder last twin behind parted parted_too).1 text) text_too) ∙ sym too
  one_name path one other (roman folder last name parted text is) (foreign twin behind parted_too none too) =
      absurd (none name (subst (λ (l : List ℕ). IsTextOf (mark ++ l) name) (parts path folder last twin behind parted parted_too).1 text))
  one_name path one other (foreign folder last parted none is) (roman twin behind also parted_too text_too too) =
      absurd (none also (subst (λ (l : List ℕ). IsTextOf (mark ++ l) also) (sym (parts path folder last twin behind parted parted_too).1) text_too))
  one_name path one other (foreign folder last parted none is) (foreign twin behind parted_too none_too too) =
      is ∙ ap (λ (l : List ℕ). err (bad_name l)) (parts path folder last twin behind parted parted_too).1 ∙ sym too

-- from the law before
module _ (names : (path : List ℕ) (one other : Result (List ℕ) Fault) → TakesName path one → TakesName path other → one ≡ other) where
  pub one_file : (form : Form) (path : List ℕ) (file : MacFile) (one other : Result MacFile Fault) → Named form path file one → Named form path file other → one ≡ other
  one_file form path file one other (raw is_raw is) (raw raw_too too) = is ∙ sym too
  one_file form path file one other (raw is_raw is) (own not_raw some too) = absurd (not_raw is_raw)
  one_file form path file one other (raw is_raw is) (taken not_raw empty too) = absurd (not_raw is_raw)
  one_file form path file one other (own not_raw some is) (raw is_raw too) = absurd (not_raw is_raw)
  one_file form path file one other (own not_raw some is) (own also_not some_too too) = is ∙ sym too
  one_file form path file one other (own not_raw some is) (taken also_not empty too) = absurd (some empty)
  one_file form path file one other (taken not_raw empty is) (raw is_raw too) = absurd (not_raw is_raw)
  one_file form path file one other (taken not_raw empty is) (own also_not some too) = absurd (some empty)
  one_file form path file one other (taken not_raw empty is) (taken also_not empty_too too) =
      once_then (TakesName path) (λ name renamed. renamed ≡ Ok (record file { name = name })) (names path) (λ name. once_is (Ok (record file { name = name }))) one other is too
