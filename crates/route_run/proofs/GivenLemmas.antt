-- The names of the profiles that a server is given.
use Rattle.std.proofs.Common.{◌≡◌, ◌≤◌, ℕ, List, [], ◌∷◌, ◌++◌, Result, Ok, Err, zero, suc, length, map, arith, append_assoc, append-nil, sym, ap, ◌∙◌, subst}
use Rattle.std.proofs.lemmas.List.{length-map}
use Rattle.command_words.proofs.CallerLemmas.{named-by}
use Rattle.command_words.specs.FileNames.{profile_name}
use Rattle.command_words.specs.Fit.{AreProfileFiles}
use Rattle.command_words.specs.Given.{Named}
use Rattle.lookup_table.specs.First.{TagTable}
use Rattle.route_ready.proofs.CallerLemmas.{names_pushed}
use Rattle.route_ready.specs.Entries.{names_of}
use Rattle.run_files.proofs.StageLemmas.{then-given}
use Rattle.run_files.specs.Chain.{Settles, TakesEachAfter}
use Rattle.run_files.specs.Checked.{TakesChecked}
use Rattle.run_files.specs.Notes.{Inputs}
use Rattle.run_files.specs.Profiles.{NamedProfile, NotesNamed, named_by}
use Rattle.run_files.specs.World.{OfferedValue, TakesWorld, WorldFiles}
use Rattle.run_files.specs.declared.status.Status.{Status}
use Rattle.session_answers.specs.Stored.{AreGiven}

-- the names of the profiles of files
abbrev pub names_in : List Named → List (List ℕ)
names_in files = map (λ (file : Named). profile_name file.name) files

-- all profiles that were taken in have the names of their files
profiles-names : (table : TagTable) (before : List NamedProfile) (files : List Named) (old new : Inputs) (profiles : List NamedProfile) →
    TakesEachAfter (NotesNamed table) before files old new (Ok profiles) → names_of profiles ≡ names_of before ++ names_in files
profiles-names table before [] old new profiles is =
    let given = is.gives in
    let same : before ≡ profiles = cc in
    ap names_of (sym same) ∙ sym (append-nil (names_of before))
profiles-names table before (file ∷ files) old new profiles is =
    let goes =
    then-given (NotesNamed table file) (λ one. TakesEachAfter (NotesNamed table) (before ++ one ∷ []) files) old new profiles is in
    let named =
    then-given (TakesChecked table file) (λ s. Settles (Ok (named_by file s))) old.files goes.between.files goes.value goes.given.0 in
    let given = named.rest.gives in
    let same : named_by file named.value ≡ goes.value = cc in
    profiles-names table (before ++ goes.value ∷ []) files goes.between new profiles goes.rest
    ∙ ap (λ (one : NamedProfile). names_of (before ++ one ∷ []) ++ names_in files) (sym same)
    ∙ ap (λ (names : List (List ℕ)). names ++ names_in files) (names_pushed before (profile_name file.name) named.value)
    ∙ append_assoc (names_of before) (profile_name file.name ∷ []) (names_in files)

-- names of profiles' files are no names of uploads
files-given : (files : List Named) → AreProfileFiles files → AreGiven (names_in files)
files-given [] are k rest = λ same. cc
files-given (file ∷ files) are zero rest = (named-by file.name are.0).given rest
files-given (file ∷ files) are (suc k) rest = files-given files are.1 k rest

-- the profiles of a world that was taken in
abbrev profiles_in : Result OfferedValue Status → List NamedProfile
profiles_in (Ok offered) = offered.profiles
profiles_in (Err status) = []

-- what is known of the names of profiles of files is so of a world's profiles, which was taken in from them
world-named : (P : List (List ℕ) → Type 0) (files : WorldFiles) (old new : Inputs) (offered : OfferedValue) →
    P (names_in files.profiles) → TakesWorld files old new (Ok offered) → P (names_of offered.profiles)
world-named P files old new offered holds is =
    let by_table = then-given _ _ old new offered is in
    let by_profiles = then-given _ _ by_table.between new offered by_table.rest in
    let by_map = then-given _ _ by_profiles.between new offered by_profiles.rest in
    let by_tiles = then-given _ _ by_map.between new offered by_map.rest in
    let named : names_of by_profiles.value ≡ names_in files.profiles =
    profiles-names by_table.value [] files.profiles by_table.between by_profiles.between by_profiles.value by_profiles.given in
    subst (λ (profiles : List NamedProfile). P (names_of profiles)) (ap profiles_in by_tiles.rest.gives)
    (subst P (sym named) holds)

-- so the names of its profiles are no names of uploads
pub world-given : (files : WorldFiles) (old new : Inputs) (offered : OfferedValue) → AreProfileFiles files.profiles →
    TakesWorld files old new (Ok offered) → AreGiven (names_of offered.profiles)
world-given files old new offered are = world-named AreGiven files old new offered (files-given files.profiles are)

-- and it has as many as there are files
pub world-many : (files : WorldFiles) (old new : Inputs) (offered : OfferedValue) → TakesWorld files old new (Ok offered) →
    length files.profiles ≤ length offered.profiles
world-many files old new offered is =
    let same : length (names_of offered.profiles) ≡ length files.profiles =
    world-named (λ (names : List (List ℕ)). length names ≡ length files.profiles) files old new offered
    (length-map files.profiles (λ (file : Named). profile_name file.name)) is in
    omega (arith, same, length-map offered.profiles (λ (s : NamedProfile). s.0))
