-- How often files were opened by the stages of a command, and when a fault of theirs is answered.
use Rattle.std.proofs.Common.{◌≡◌, ℕ, suc, ◌+◌, inl, inr, List, [], ◌∷◌, ◌++◌, length, Some, Result, Ok, Err, true, refl, sym, ap, ◌∙◌, subst, arith, append-nil, length-append}
use Rattle.command_words.specs.Given.{Named}
use Rattle.edge_io.specs.Faults.{CountRose, count_after, next_count}
use Rattle.edge_io.specs.Files.{FilesSeen, Opens}
use Rattle.edge_io.specs.Whole.{ReadsBytes}
use Rattle.route_run.proofs.CountLemmas.{count_after-count_after, get_after, get_front}
use Rattle.route_run.specs.Outcome.{HasOpened, HasOpenedAll, IsReadFault, words_in}
use Rattle.run_files.specs.Chain.{Leaves, Settles, Stage, StageOver, TakesEachAfter, Then}
use Rattle.overpass_graph.specs.Maps.{MapValue}
use Rattle.run_files.specs.File.{Asks as asks}
use Rattle.run_files.specs.File.{Asks, IsFileAnswer, TakesFile}
use Rattle.run_files.specs.Limits.{most_map}
use Rattle.run_files.proofs.MapLemmas.{map-asked}
use Rattle.run_files.specs.Map.{IsMapAnswer, TakesMap}
use Rattle.run_files.specs.Notes.{Inputs, Noting}
use Rattle.run_files.specs.declared.status.Status.{Status}
use Rattle.run_files.specs.declared.status.Status.TheVariants.{Done, Usage, Query, TooLong, Lookup, Text, Check, Map, Tile, Certificate, Route, Refuted, NotFound, ReadFault, WriteFault, TurnsSpent, HubFault, NoMemory}

-- ---- What a stage says of the files whose words stand in this order

-- a refusal: of no word but these, and with its cause
abbrev pub RefusalCause : (Faulty : ℕ → Type 0) → List ℕ → FilesSeen → FilesSeen → Status → Type 0
RefusalCause Faulty words old new (ReadFault word) = IsReadFault words word old new
RefusalCause Faulty words old new (Usage word) = Faulty word × HasOpened (length words) old new
RefusalCause Faulty words old new Done = ⊥
RefusalCause Faulty words old new WriteFault = ⊥
RefusalCause Faulty words old new TurnsSpent = ⊥
RefusalCause Faulty words old new HubFault = ⊥
RefusalCause Faulty words old new status = HasOpened (length words) old new

-- a value or a refusal with its cause
abbrev pub Cause : {A : Type 0} (Faulty : ℕ → Type 0) → List ℕ → FilesSeen → FilesSeen → Result A Status → Type 0
Cause Faulty words old new (Ok a) = HasOpenedAll (length words) old new
Cause Faulty words old new (Err status) = RefusalCause Faulty words old new status

-- a status that a stage may give that touches no file: of no word at fault but these
abbrev pub IsInner : (Faulty : ℕ → Type 0) → Status → Type 0
IsInner Faulty (Usage word) = Faulty word
IsInner Faulty (ReadFault word) = ⊥
IsInner Faulty WriteFault = ⊥
IsInner Faulty TurnsSpent = ⊥
IsInner Faulty HubFault = ⊥
IsInner Faulty Done = ⊥
IsInner Faulty status = Unit {0}

-- what shows files: they themselves, and files with notes
abbrev pub itself : FilesSeen → FilesSeen
itself seen = seen

abbrev pub files_in : Inputs → FilesSeen
files_in old = old.files

-- one file was opened
opened-one : (old new : FilesSeen) → new.faults ≡ old.faults → new.opens ≡ next_count old.opens → HasOpened 1 old new
opened-one old new faults opens = record { faults = faults; times = 1; few = omega arith; opened = opens }

-- nothing was opened where the files are what they were
pub opened-none : (most : ℕ) (old new : FilesSeen) → new ≡ old → HasOpened most old new
opened-none most old new same = record {
  faults = ap (λ (s : FilesSeen). s.faults) same;
  times = 0;
  few = omega arith;
  opened =
      ap (λ (s : FilesSeen). s.opens) same;
}

-- all of no files were opened
pub opens-none : (old new : FilesSeen) → new ≡ old → HasOpenedAll 0 old new
opens-none old new same = record { faults = ap (λ (s : FilesSeen). s.faults) same; opened = ap (λ (s : FilesSeen). s.opens) same }

module _ (Faulty : ℕ → Type 0)
  where
    -- ---- One file

    module _ (file : Named) (limit : ℕ) (old opened new : FilesSeen) (bytes : List ℕ) (opens : Opens old opened file.name true)
        (reads : ReadsBytes limit opened new bytes) where
      once : new.opens ≡ next_count old.opens
      once = reads.opens ∙ opens.opens

      -- no call failed
      still : new.faults ≡ opened.faults → HasOpened 1 old new
      still same = opened-one old new (same ∙ opens.faults) once

      -- it was taken
      whole : new.faults ≡ opened.faults → HasOpenedAll 1 old new
      whole same = record { faults = same ∙ opens.faults; opened = once }

      -- a read failed
      broke : (at : ℕ) → at ≡ file.word → CountRose opened.faults new.faults → IsReadFault (file.word ∷ []) at old new
      broke at named rose = record {
        rose = subst (λ (n : ℕ). CountRose n new.faults) opens.faults rose;
        before = 0;
        opened = once;
        named = ap Some (sym named);
      }

      -- the answer of a file that was read has its cause
      file-read : (result : Result (List ℕ) Status) → IsFileAnswer file limit bytes opened new result →
          Cause Faulty (file.word ∷ []) old new result
      file-read (Ok whole_text) is = whole is.3
      file-read (Err (TooLong at)) is = still is.2
      file-read (Err (ReadFault at)) is = broke at is.0 is.1
      file-read (Err NoMemory) is = still is
      file-read (Err (NotFound at)) is = absurd is
      file-read (Err Done) is = absurd is
      file-read (Err (Usage at)) is = absurd is
      file-read (Err (Lookup at error)) is = absurd is
      file-read (Err (Text at error)) is = absurd is
      file-read (Err (Check at error)) is = absurd is
      file-read (Err (Query error)) is = absurd is
      file-read (Err (Map at error)) is = absurd is
      file-read (Err (Tile at error)) is = absurd is
      file-read (Err (Certificate at error)) is = absurd is
      file-read (Err (Route error line)) is = absurd is
      file-read (Err (Refuted leg why)) is = absurd is
      file-read (Err WriteFault) is = absurd is
      file-read (Err TurnsSpent) is = absurd is
      file-read (Err HubFault) is = absurd is

      -- so has that of a map
      map-read : (result : Result MapValue Status) → IsMapAnswer file bytes opened new result → Cause Faulty (file.word ∷ []) old new result
      map-read (Ok map) is = whole is.2
      map-read (Err (TooLong at)) is = still is.3
      map-read (Err (Map at error)) is = still is.3
      map-read (Err (ReadFault at)) is = broke at is.0 is.1
      map-read (Err NoMemory) is = still is
      map-read (Err (NotFound at)) is = absurd is
      map-read (Err Done) is = absurd is
      map-read (Err (Usage at)) is = absurd is
      map-read (Err (Query error)) is = absurd is
      map-read (Err (Lookup at error)) is = absurd is
      map-read (Err (Text at error)) is = absurd is
      map-read (Err (Check at error)) is = absurd is
      map-read (Err (Tile at error)) is = absurd is
      map-read (Err (Certificate at error)) is = absurd is
      map-read (Err (Route error line)) is = absurd is
      map-read (Err (Refuted leg why)) is = absurd is
      map-read (Err WriteFault) is = absurd is
      map-read (Err TurnsSpent) is = absurd is
      map-read (Err HubFault) is = absurd is

    -- a stage over one file has its cause, where what is answered of the open file has
    asks-cause : {A : Type 0} (file : Named) (limit : ℕ) (Is : List ℕ → Stage A)
        → ((old opened new : FilesSeen) (bytes : List ℕ) → Opens old opened file.name true → ReadsBytes limit opened new bytes →
        (result : Result A Status) → Is bytes opened new result → Cause Faulty (file.word ∷ []) old new result)
        → (old new : FilesSeen) (result : Result A Status) → Asks file limit Is old new result →
        Cause Faulty (file.word ∷ []) old new result
    asks-cause file limit Is by_read old new _ (asks.failed fails) =
        record { rose = fails.rose; before = 0; opened = fails.opens; named = refl }
    asks-cause file limit Is by_read old new _ (asks.missing opens) = opened-one old new opens.faults opens.opens
    asks-cause file limit Is by_read old new result (asks.reading {opened = opened} {bytes = bytes} opens reads is) =
        by_read old opened new bytes opens reads result is

    -- so has the stage of a file that is taken whole
    pub file-cause : (file : Named) (limit : ℕ) (old new : FilesSeen) (result : Result (List ℕ) Status) →
        TakesFile file limit old new result → Cause Faulty (file.word ∷ []) old new result
    file-cause file limit = asks-cause file limit (IsFileAnswer file limit) (file-read file limit)

    -- and that of a map's file
    pub map-cause : (file : Named) (old new : Inputs) (result : Result MapValue Status) → TakesMap file old new result →
        Cause Faulty (file.word ∷ []) old.files new.files result
    map-cause file old new result is =
        asks-cause file most_map (IsMapAnswer file) (map-read file most_map) old.files new.files result (map-asked file old new result is)

    -- such a status has its cause
    inner-cause : (old new : FilesSeen) (status : Status) → IsInner Faulty status → new ≡ old → RefusalCause Faulty [] old new status
    inner-cause old new (Usage word) inner same = (inner, opened-none 0 old new same)
    inner-cause old new (ReadFault word) inner same = absurd inner
    inner-cause old new WriteFault inner same = absurd inner
    inner-cause old new TurnsSpent inner same = absurd inner
    inner-cause old new HubFault inner same = absurd inner
    inner-cause old new Done inner same = absurd inner
    inner-cause old new (TooLong word) inner same = opened-none 0 old new same
    inner-cause old new (Lookup word error) inner same = opened-none 0 old new same
    inner-cause old new (Text word error) inner same = opened-none 0 old new same
    inner-cause old new (Check word error) inner same = opened-none 0 old new same
    inner-cause old new (Query error) inner same = opened-none 0 old new same
    inner-cause old new (Map word error) inner same = opened-none 0 old new same
    inner-cause old new (Tile word error) inner same = opened-none 0 old new same
    inner-cause old new (Certificate word error) inner same = opened-none 0 old new same
    inner-cause old new (Route error line) inner same = opened-none 0 old new same
    inner-cause old new (Refuted leg why) inner same = opened-none 0 old new same
    inner-cause old new (NotFound word) inner same = opened-none 0 old new same
    inner-cause old new NoMemory inner same = opened-none 0 old new same

    -- ---- Refusals of files that stand before others or behind them

    -- a refusal over files, told of others
    refusal-as : (words others : List ℕ) (old new first last : FilesSeen) →
        (HasOpened (length words) old new → HasOpened (length others) first last) →
        ((word : ℕ) → IsReadFault words word old new → IsReadFault others word first last) → (status : Status) →
        RefusalCause Faulty words old new status →
        RefusalCause Faulty others first last status
    refusal-as words others old new first last opened fault (ReadFault word) c = fault word c
    refusal-as words others old new first last opened fault (Usage word) c = (c.0, opened c.1)
    refusal-as words others old new first last opened fault Done c = c
    refusal-as words others old new first last opened fault WriteFault c = c
    refusal-as words others old new first last opened fault TurnsSpent c = c
    refusal-as words others old new first last opened fault HubFault c = c
    refusal-as words others old new first last opened fault (TooLong word) c = opened c
    refusal-as words others old new first last opened fault (Lookup word error) c = opened c
    refusal-as words others old new first last opened fault (Text word error) c = opened c
    refusal-as words others old new first last opened fault (Check word error) c = opened c
    refusal-as words others old new first last opened fault (Query error) c = opened c
    refusal-as words others old new first last opened fault (Map word error) c = opened c
    refusal-as words others old new first last opened fault (Tile word error) c = opened c
    refusal-as words others old new first last opened fault (Certificate word error) c = opened c
    refusal-as words others old new first last opened fault (Route error line) c = opened c
    refusal-as words others old new first last opened fault (Refuted leg why) c = opened c
    refusal-as words others old new first last opened fault (NotFound word) c = opened c
    refusal-as words others old new first last opened fault NoMemory c = opened c

    -- more files make a refusal of the first ones one of all
    refusal-front : (words more : List ℕ) (old new : FilesSeen) (status : Status) → RefusalCause Faulty words old new status →
        RefusalCause Faulty (words ++ more) old new status
    refusal-front words more old new = refusal-as words (words ++ more) old new old new opened fault
      where
        opened : HasOpened (length words) old new → HasOpened (length (words ++ more)) old new
        opened o = record { faults = o.faults; times = o.times; few = omega (arith, o.few, length-append words more); opened = o.opened }

        fault : (word : ℕ) → IsReadFault words word old new → IsReadFault (words ++ more) word old new
        fault word f = record { rose = f.rose; before = f.before; opened = f.opened; named = get_front words more f.before word f.named }

    -- a refusal after the first files were opened
    refusal-after : (words more : List ℕ) (old mid new : FilesSeen) (status : Status) → HasOpenedAll (length words) old mid →
        RefusalCause Faulty more mid new status → RefusalCause Faulty (words ++ more) old new status
    refusal-after words more old mid new status before = refusal-as more (words ++ more) mid new old new opened fault status
      where
        counted : (n : ℕ) → new.opens ≡ count_after n mid.opens → new.opens ≡ count_after (length words + n) old.opens
        counted n is = is ∙ ap (count_after n) before.opened ∙ count_after-count_after (length words) n old.opens

        opened : HasOpened (length more) mid new → HasOpened (length (words ++ more)) old new
        opened o = record {
          faults = o.faults ∙ before.faults;
          times = length words + o.times;
          few = omega (arith, o.few, length-append words more);
          opened = counted o.times o.opened;
        }

        fault : (word : ℕ) → IsReadFault more word mid new → IsReadFault (words ++ more) word old new
        fault word f = record {
          rose = subst (λ n. CountRose n new.faults) before.faults f.rose;
          before = length words + f.before;
          opened = counted (suc f.before) f.opened
              ∙ ap (λ n. count_after n old.opens) (let e : length words + suc f.before ≡ suc (length words + f.before) = omega arith in e);
          named = get_after words more f.before word f.named;
        }

    -- ---- Stages, over whatever shows files

    module _ {S : Type 0} (seen : S → FilesSeen)
      where
        -- a stage that gives an answer and touches no file, whose refusals are of that kind
        pub settles-cause : {A : Type 0} (answer : Result A Status) → ((status : Status) → answer ≡ Err status → IsInner Faulty status) →
            (old new : S) (result : Result A Status) → Settles answer old new result → Cause Faulty [] (seen old) (seen new) result
        settles-cause answer inner old new (Ok a) settles = opens-none (seen old) (seen new) (ap seen settles.same)
        settles-cause answer inner old new (Err status) settles =
            elim settles.gives [
              | inl none ↦ inner-cause (seen old) (seen new) status (subst (IsInner Faulty) (sym none) tt) (ap seen settles.same)
              | inr is ↦ inner-cause (seen old) (seen new) status (inner status is) (ap seen settles.same)
            ]

        -- a stage that leaves the files, whose refusals are of that kind
        pub leaves-cause : {A : Type 0} (Is : Result A Status → Type 0) → ((status : Status) → Is (Err status) → IsInner Faulty status) →
            (old new : S) (result : Result A Status) → Leaves Is old new result → Cause Faulty [] (seen old) (seen new) result
        leaves-cause Is inner old new (Ok a) is = opens-none (seen old) (seen new) (ap seen is.1)
        leaves-cause Is inner old new (Err status) is = inner-cause (seen old) (seen new) status (inner status is.0) (ap seen is.1)

        -- two stages together
        pub then-cause : {A B : Type 0} (first : StageOver S A) (second : A → StageOver S B) (words more : List ℕ)
            → ((old new : S) (r : Result A Status) → first old new r → Cause Faulty words (seen old) (seen new) r)
            → ((a : A) (old new : S) (r : Result B Status) → second a old new r → Cause Faulty more (seen old) (seen new) r)
            → (old new : S) (r : Result B Status) → Then first second old new r → Cause Faulty (words ++ more) (seen old) (seen new) r
        then-cause first second words more one two old new r (inl stops) =
            subst (Cause Faulty (words ++ more) (seen old) (seen new)) (sym stops.answer)
            (refusal-front words more (seen old) (seen new) stops.status (one old new (Err stops.status) stops.refused))
        then-cause first second words more one two old new (Ok b) (inr goes) =
            let before = one old goes.between (Ok goes.value) goes.given in
            let after = two goes.value goes.between new (Ok b) goes.rest in
            record {
              faults = after.faults ∙ before.faults;
              opened = after.opened ∙ ap (count_after (length more)) before.opened
                  ∙ count_after-count_after (length words) (length more) (seen old).opens
                  ∙ ap (λ n. count_after n (seen old).opens) (sym (length-append words more));
            }
        then-cause first second words more one two old new (Err status) (inr goes) =
            refusal-after words more (seen old) (seen goes.between) (seen new) status (one old goes.between (Ok goes.value) goes.given)
            (two goes.value goes.between new (Err status) goes.rest)

        -- two stages, of which the second opens no file
        pub last-cause : {A B : Type 0} (first : StageOver S A) (second : A → StageOver S B) (words : List ℕ)
            → ((old new : S) (r : Result A Status) → first old new r → Cause Faulty words (seen old) (seen new) r)
            → ((a : A) (old new : S) (r : Result B Status) → second a old new r → Cause Faulty [] (seen old) (seen new) r)
            → (old new : S) (r : Result B Status) → Then first second old new r → Cause Faulty words (seen old) (seen new) r
        last-cause first second words one two old new r is =
            subst (λ (w : List ℕ). Cause Faulty w (seen old) (seen new) r) (append-nil words) (then-cause first second words [] one two old new r is)

        -- files that are taken in one after the other
        pub each-cause : {A : Type 0} (stage : Named → StageOver S A)
            → ((file : Named) (old new : S) (r : Result A Status) → stage file old new r → Cause Faulty (file.word ∷ []) (seen old) (seen new) r)
            → (before : List A) (files : List Named) (old new : S) (r : Result (List A) Status) →
            TakesEachAfter stage before files old new r
            → Cause Faulty (words_in files) (seen old) (seen new) r
        each-cause stage one before [] old new r is = settles-cause (Ok before) (λ status none. cc) old new r is
        each-cause stage one before (file ∷ files) old new r is =
            then-cause (stage file) (λ a. TakesEachAfter stage (before ++ a ∷ []) files) (file.word ∷ []) (words_in files) (one file)
            (λ a old new r. each-cause stage one (before ++ a ∷ []) files old new r) old new r is

    -- ---- Stages that note

    -- a stage over files whose value is noted
    pub noting-cause : {A : Type 0} (stage : Stage A) (note : A → List ℕ) (words : List ℕ)
        → ((old new : FilesSeen) (r : Result A Status) → stage old new r → Cause Faulty words old new r)
        → (old new : Inputs) (r : Result A Status) → Noting stage note old new r → Cause Faulty words old.files new.files r
    noting-cause stage note words one old new (Ok a) is = one old.files new.files (Ok a) is.0
    noting-cause stage note words one old new (Err status) is = one old.files new.files (Err status) is.0
