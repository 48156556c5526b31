-- What the crates above cite of profiles' files.
use Rattle.std.proofs.Common.{◌≡◌, ◌≢◌, ℕ, suc, ◌≤◌, Bool, true, false, not, ◌&&◌, nat_lt, nat_le, nat_eq, List, ◌++◌, length, codes, refl, sym, arith, ◌∷◌, [], ◌+◌, ◌<◌, drop, get_or, add-one, subst}
use Rattle.std.proofs.lemmas.Bool.Decides.{nat_tests, Decides-eqb}
use Rattle.std.proofs.Math.Seq.{drop-cons}
use Rattle.std.proofs.lemmas.Slice.Eq.{starts_is}
use Rattle.std.specs.List.{list_all, starts_with}
use Rattle.command_words.specs.FileNames.{is_name_byte, is_profile_file, profile_name}
use Rattle.command_words.specs.Fit.{AreProfileFiles, AreOnceAfter}
use Rattle.command_words.specs.Given.{Named}

-- ---- Names

-- what a name for a profile is
pub record IsProfileName (name : List ℕ) : Type 0 where
  pub some : 1 ≤ length name
  pub short : length name ≤ 64
  pub given : (rest : List ℕ) → name ≢ codes "custom_" ++ rest

-- a test of which a part fails is not passed
never : (a b c : Bool) → (a && (b && (c && false))) ≡ true → ⊥
never true true true e = cc
never true true false e = cc
never true false c e = cc
never false b c e = cc

differ : false ≡ true → ⊥
differ e = cc

tests : (name : List ℕ) (a b c d : Bool) → a ≡ nat_lt 0 (length name) → b ≡ nat_le (length name) 64 →
    d ≡ starts_with nat_eq name (codes "custom_") → (a && (b && (c && not d))) ≡ true → IsProfileName name
tests name a b c true some short front is = absurd (never a b c is)
tests name a b c false some short front is = record {
  some = grind (arith, nat_tests);
  short = grind (arith, nat_tests);
  given = λ rest same. differ ((starts_is Decides-eqb name (codes "custom_") false front).1 rest same);
}

-- a profile's file is named by such a name
pub named-by : (path : List ℕ) → is_profile_file path ≡ true → IsProfileName (profile_name path)
unfolding is_profile_file
named-by path is =
    let name = profile_name path in
    tests name (nat_lt 0 (length name)) (nat_le (length name) 64) (list_all is_name_byte name) (starts_with nat_eq name (codes "custom_"))
    refl refl refl is

-- ---- Files, one after the other

-- those after the next are profiles' files too
pub named-next : (files : List Named) (k : ℕ) (file : Named) → k < length files → AreProfileFiles (drop k files) →
    AreProfileFiles (drop (k + 1) files)
named-next files k file here named =
    let held : AreProfileFiles (get_or files k file ∷ drop (suc k) files) = subst AreProfileFiles (drop-cons files k file here) named in
    rw add-one held.1

-- once the next one's name is taken in, those after it have none of the names taken in
pub once-next :
    (names : List (List ℕ)) (files : List Named) (k : ℕ) (file : Named) → k < length files → file ≡ get_or files k file →
    AreOnceAfter names (drop k files) →
    AreOnceAfter (names ++ profile_name file.name ∷ []) (drop (k + 1) files)
once-next names files k file here is once =
    let held : AreOnceAfter names (get_or files k file ∷ drop (suc k) files) =
    subst (AreOnceAfter names) (drop-cons files k file here) once in
    let after : AreOnceAfter (names ++ profile_name file.name ∷ []) (drop (suc k) files) =
    subst (λ (f : Named). AreOnceAfter (names ++ profile_name f.name ∷ []) (drop (suc k) files)) (sym is) held.1 in
    rw add-one after
