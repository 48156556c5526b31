-- The profiles that are read are named by their files, and each name is its own.
use Rattle.std.proofs.Common.{◌≡◌, ℕ, Bool, true, false, not, cond, ◌&&◌, ◌||◌, List, [], ◌∷◌, ◌++◌, Ok, map, refl, subst}
use Rattle.std.proofs.lemmas.List.Folds.{list_any-append}
use Rattle.command_words.specs.Command.{file_in, files_in}
use Rattle.command_words.specs.FileNames.{is_profile_file, profile_name}
use Rattle.command_words.specs.Fit.{is_among, AreProfileFiles, AreOnceAfter}
use Rattle.command_words.specs.Given.{Given}
use Rattle.command_words.specs.Reader.{entries_after, entries_with, may_follow, has_profile_of, row_for, same_key, same_profile}
use Rattle.command_words.specs.Value.{number_in}
use Rattle.command_words.proofs.EntryLemmas.{AllFit, FitRow, after-keeps}
use Rattle.command_words.proofs.KeyLemmas.{key-is}
use Rattle.command_words.specs.declared.rows.Key.TheVariants.{Profile}
use Rattle.command_words.specs.declared.rows.KeyRow.{KeyRow}
use Rattle.std.proofs.lemmas.Bool.{or_parts}
use Rattle.std.specs.Str.{bytes_eq}

-- the profiles' files that are read are named as such
pub profiles-fit : (keys : List KeyRow) (entries : List Given) →
    ((text : List ℕ) (x : ℕ) → FitRow (row_for keys Profile) text x → is_profile_file text ≡ true) → AllFit keys entries →
    AreProfileFiles (files_in Profile entries)
profiles-fit keys [] wants all = tt
profiles-fit keys (entry ∷ entries) wants all = go (profiles-fit keys entries wants all.1) (same_key entry.key Profile) refl where
  go : AreProfileFiles (files_in Profile entries) → (b : Bool) → same_key entry.key Profile ≡ b →
      AreProfileFiles (map file_in (cond b (entry ∷ entries_with Profile entries) (entries_with Profile entries)))
  go later true is = (
    wants entry.text (number_in entry.value)
        (subst (λ k. FitRow (row_for keys k) entry.text (number_in entry.value)) (key-is entry.key Profile is) all.0),
    later,
  )
  go later false is = later

-- one name more
among-more : (names : List (List ℕ)) (last name : List ℕ) → is_among names name ≡ false → bytes_eq last name ≡ false →
    is_among (names ++ last ∷ []) name ≡ false
among-more names last name a b =
    let all = list_any-append (λ (other : List ℕ). bytes_eq other name) names (last ∷ []) in
    let out : (false || (false || false)) ≡ false = refl in
    cc

-- of two profiles the second may follow the first one's name
apart-names : (first entry : Given) → same_key first.key Profile ≡ true → same_key entry.key Profile ≡ true →
    same_profile first entry ≡ false → bytes_eq (profile_name first.text) (profile_name entry.text) ≡ false
apart-names first entry a b apart = both (same_key first.key Profile) (same_key entry.key Profile) a b apart where
  both : (x y : Bool) {z : Bool} → x ≡ true → y ≡ true → (x && (y && z)) ≡ false → z ≡ false
  both true true a b e = e
  both true false a b e = cc
  both false y a b e = cc

-- one file more, whose profile is none of those before
once-push :
    (names : List (List ℕ)) (before : List Given) (entry : Given) → AreOnceAfter names (files_in Profile before) →
    (same_key entry.key Profile ≡ true → is_among names (profile_name entry.text) ≡ false) →
    has_profile_of entry before ≡ false → AreOnceAfter names (files_in Profile (before ++ entry ∷ []))
once-push names [] entry once new none = go (same_key entry.key Profile) refl where
  go : (b : Bool) → same_key entry.key Profile ≡ b → AreOnceAfter names (map file_in (cond b (entry ∷ []) []))
  go true is = (new is, tt)
  go false is = tt
once-push names (first ∷ rest) entry once new none =
    let tested = or_parts (same_profile first entry) (has_profile_of entry rest) none in
    go (λ more held fresh. once-push more rest entry held fresh tested.1) tested.0 (same_key first.key Profile) refl once where
      go :
          (
          (more : List (List ℕ)) → AreOnceAfter more (files_in Profile rest) →
          (same_key entry.key Profile ≡ true → is_among more (profile_name entry.text) ≡ false) →
          AreOnceAfter more (files_in Profile (rest ++ entry ∷ []))
          ) → same_profile first entry ≡ false → (b : Bool) → same_key first.key Profile ≡ b →
          AreOnceAfter names (map file_in (cond b (first ∷ entries_with Profile rest) (entries_with Profile rest))) →
          AreOnceAfter names (map file_in (cond b (first ∷ entries_with Profile (rest ++ entry ∷ []))
          (entries_with Profile (rest ++ entry ∷ []))))
      go push apart true is once = (
        once.0,
        push (names ++ profile_name first.text ∷ []) once.1
            (λ named. among-more names (profile_name first.text) (profile_name entry.text) (new named)
            (apart-names first entry is named apart)),
      )
      go push apart false is once = push names once new

follows-once : (keys : List KeyRow) (before : List Given) (entry : Given) → may_follow keys before entry ≡ true →
    AreOnceAfter [] (files_in Profile before) → AreOnceAfter [] (files_in Profile (before ++ entry ∷ []))
unfolding may_follow
follows-once keys before entry may once = once-push [] before entry once (λ named. refl) (second _ _ may) where
  second : (a b : Bool) → (a && not b) ≡ true → b ≡ false
  second true true e = cc
  second true false e = refl
  second false b e = cc

-- the profiles that are read have names of their own
pub after-once : (keys : List KeyRow) (texts : List (List ℕ)) (entries : List Given) → entries_after keys [] texts ≡ Ok entries →
    AreOnceAfter [] (files_in Profile entries)
after-once keys texts entries e =
    after-keeps keys (λ read. AreOnceAfter [] (files_in Profile read))
    (λ word text before entry is may once. follows-once keys before entry may once) texts [] entries tt e
