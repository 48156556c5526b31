-- Profiles that are taken in and stored under the names of their files.
use Rattle.std.proofs.lemmas.Slice.Eq.{bytes_eq-Decides}
use Rattle.std.specs.Str.{bytes_eq}
use Rattle.std.proofs.Common.{◌≡◌, ℕ, inl, List, [], ◌∷◌, ◌++◌, Ok, Err, ◌+◌, ◌<◌, suc, length, drop, slice_index_or, ◌||◌, option_map, Bool, true, false, None, refl, sym, ap, ◌∙◌, subst}
use Rattle.command_words.specs.FileNames.{profile_name}
use Rattle.command_words.specs.Fit.{AreOnceAfter, is_among}
use Rattle.command_words.specs.Given.{Named}
use Rattle.edge_io.specs.Files.{FilesSeen}
use Rattle.lookup_table.specs.First.{TagTable}
use Rattle.lookup_table.specs.Tag.{name_place}
use Rattle.profile_text.specs.Tree.{Sections}
use Rattle.route_ready.proofs.CallerLemmas.{names_pushed}
use Rattle.route_ready.specs.Entries.{names_of}
use Rattle.run_files.proofs.EachLemmas.{left_at}
use Rattle.run_files.proofs.StageLemmas.{then-goes, then-stops}
use Rattle.run_files.specs.Chain.{Settles}
use Rattle.run_files.specs.Checked.{TakesChecked}
use Rattle.run_files.specs.Profiles.{NamedProfile, TakesNamed, named_by}
use Rattle.run_files.specs.declared.status.Status.{Status}
use Rattle.run_files.specs.declared.status.Status.TheVariants.{NoMemory}

module _ (table : TagTable) (file : Named) (old new : FilesSeen)
  where
    -- a profile that was taken in, under its name
    pub named-taken : (sections : Sections) → TakesChecked table file old new (Ok sections) →
        TakesNamed table file old new (Ok (named_by file sections))
    named-taken sections taken =
        then-goes (TakesChecked table file) (λ s. Settles (Ok (named_by file s))) old new new (Ok (named_by file sections))
        sections taken (record { gives = refl; same = refl })

    -- want of memory behind the stage of a profile
    pub named-no_memory : (sections : Sections) → TakesChecked table file old new (Ok sections) →
        TakesNamed table file old new (Err NoMemory)
    named-no_memory sections taken =
        then-goes (TakesChecked table file) (λ s. Settles (Ok (named_by file s))) old new new (Err NoMemory) sections taken
        (record { gives = inl refl; same = refl })

    -- a profile that is refused
    pub named-refused : (status : Status) → TakesChecked table file old new (Err status) → TakesNamed table file old new (Err status)
    named-refused status refused =
        then-stops (TakesChecked table file) (λ s. Settles (Ok (named_by file s))) old new (Err status) status refused refl

-- ---- Names

-- neither of two tests holds
rest_false : (a b : Bool) → (a || b) ≡ false → b ≡ false
rest_false true b is = cc
rest_false false b is = is

-- a first name that isn't this one, before names among which it isn't found
place_behind : (b : Bool) (x name : List ℕ) (xs : List (List ℕ)) → bytes_eq name x ≡ b → (bytes_eq x name || is_among xs name) ≡ false →
    (is_among xs name ≡ false → name_place xs name ≡ None) → name_place (x ∷ xs) name ≡ None
place_behind true x name xs same is later =
    let equal : name ≡ x = (bytes_eq-Decides name x).0 same in
    let here : bytes_eq x name ≡ true = (bytes_eq-Decides x name).1 (sym equal) in
    absurd (let clash : true ≡ false = sym (ap (λ (a : Bool). a || is_among xs name) here) ∙ is in cc)
place_behind false x name xs other is later = rw other (ap (option_map suc) (later (rest_false (bytes_eq x name) (is_among xs name) is)))

-- a name that is among none is found nowhere
among-none : (names : List (List ℕ)) (name : List ℕ) → is_among names name ≡ false → name_place names name ≡ None
among-none [] name is = refl
among-none (x ∷ xs) name is = place_behind (bytes_eq name x) x name xs refl is (λ rest. among-none xs name rest)

-- the next file has none of the names before it
pub once-first : (names : List (List ℕ)) (files : List Named) (k : ℕ) (file : Named) → k < length files →
    file ≡ slice_index_or files k file →
    AreOnceAfter names (drop k files) → name_place names (profile_name file.name) ≡ None
once-first names files k file here is once =
    let held : AreOnceAfter names (file ∷ drop (k + 1) files) = subst (AreOnceAfter names) (left_at files k file here is) once in
    among-none names (profile_name file.name) held.0

-- the names behind one more profile
pub names-after : (old new : List NamedProfile) (name : List ℕ) (sections : Sections) → new ≡ old ++ (name, sections) ∷ [] →
    names_of new ≡ names_of old ++ name ∷ []
names-after old new name sections is = ap names_of is ∙ names_pushed old name sections
