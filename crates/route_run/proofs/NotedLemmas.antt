-- What is noted by stages, as one text.
use Rattle.std.proofs.Common.{◌≡◌, ℕ, inl, inr, Bool, true, false, ◌&&◌, List, [], ◌∷◌, ◌++◌, ◌+◌, None, length, Result, Ok, Err, refl, sym, ap, ◌∙◌, subst, append_assoc, append-nil}
use Rattle.command_words.specs.Given.{Named}
use Rattle.edge_io.specs.Sink.{SinkSeen}
use Rattle.overpass_graph.specs.Maps.{MapValue}
use Rattle.route_ready.specs.Worlds.{WorldValue}
use Rattle.route_run.specs.Noted.{AreMapNotes, AreReadyNotes, AreWorldNotes, Is, IsReadyNote, Joins, WritesIf, each_note}
use Rattle.route_run.specs.Readying.{ReadiesFrom, ready_note}
use Rattle.run_files.proofs.NoteLemmas.{front-none, noted-more, noted-none}
use Rattle.run_files.specs.Chain.{Stage, TakesEachAfter, Then}
use Rattle.run_files.specs.Map.{TakesMap}
use Rattle.run_files.specs.Map.{TakesMap as takes}
use Rattle.run_files.specs.NoteLines.{map_note, profile_note, read_notes, table_note, tile_note}
use Rattle.run_files.specs.Notes.{HasFront, Inputs, IsNoted, NotedStage, NotesSeen, Noting, heard}
use Rattle.run_files.specs.Notes.{IsNoted as noted}
use Rattle.run_files.specs.Profiles.{NotesNamed, TakesNamed}
use Rattle.run_files.specs.TagTable.{TakesTable}
use Rattle.run_files.specs.Tiles.{NotesTile, TakesTile, TakesTiles}
use Rattle.run_files.specs.World.{OfferedValue, TakesWorld, WorldFiles}
use Rattle.run_files.specs.declared.status.Status.{Status}
use Rattle.hgt_tiles.specs.declared.tile_set.Tiles.{Tiles}
use Rattle.session_answers.specs.Stored.{Stored}

-- ---- What a stage noted

-- a whole text of this kind was noted
pub record ToldAll (Texts : List ℕ → Type 0) (old new : NotesSeen) : Type 0 where
  pub text : List ℕ
  pub is : Texts text
  pub noted : IsNoted text old new

-- a front of one was
pub record ToldFront (Texts : List ℕ → Type 0) (old new : NotesSeen) : Type 0 where
  pub front : List ℕ
  pub rest : List ℕ
  pub is : Texts (front ++ rest)
  pub noted : IsNoted front old new

-- a value comes with the whole, and a refusal with a front
abbrev pub Told : {A : Type 0} → (List ℕ → Type 0) → NotesSeen → NotesSeen → Result A Status → Type 0
Told Texts old new (Ok a) = ToldAll Texts old new
Told Texts old new (Err status) = ToldFront Texts old new

-- nothing was noted
nothing : (old new : NotesSeen) → new ≡ old → IsNoted [] old new
nothing old new same = subst (λ (s : NotesSeen). IsNoted [] old s) (sym same) (noted-none old)

-- a whole text is a front of itself
pub front-all : (Texts : List ℕ → Type 0) (old new : NotesSeen) → ToldAll Texts old new → ToldFront Texts old new
front-all Texts old new told =
    record { front = told.text; rest = []; is = subst Texts (sym (append-nil told.text)) told.is; noted = told.noted }

-- a front of a text is one of a longer text
pub front-more : (First Second : List ℕ → Type 0) (old new : NotesSeen) (second : List ℕ) → Second second → ToldFront First old new →
    ToldFront (Joins First Second) old new
front-more First Second old new second is told = record {
  front = told.front;
  rest = told.rest ++ second;
  is = record {
    first = told.front ++ told.rest;
    second = second;
    is_first = told.is;
    is_second = is;
    parts = sym (append_assoc told.front told.rest second);
  };
  noted = told.noted;
}

-- a front of a text behind a whole one
pub all-front : (First Second : List ℕ → Type 0) (old mid new : NotesSeen) → ToldAll First old mid → ToldFront Second mid new →
    ToldFront (Joins First Second) old new
all-front First Second old mid new one two = record {
  front = one.text ++ two.front;
  rest = two.rest;
  is = record {
    first = one.text;
    second = two.front ++ two.rest;
    is_first = one.is;
    is_second = two.is;
    parts = append_assoc one.text two.front two.rest;
  };
  noted = noted-more one.text two.front old mid new one.noted two.noted;
}

-- a whole text behind a whole one
pub all-all : (First Second : List ℕ → Type 0) (old mid new : NotesSeen) → ToldAll First old mid → ToldAll Second mid new →
    ToldAll (Joins First Second) old new
all-all First Second old mid new one two = record {
  text = one.text ++ two.text;
  is = record { first = one.text; second = two.text; is_first = one.is; is_second = two.is; parts = refl };
  noted = noted-more one.text two.text old mid new one.noted two.noted;
}

-- texts of one kind are of another
told-as : {A : Type 0} (Texts Others : List ℕ → Type 0) (old new : NotesSeen) (r : Result A Status) →
    ((text : List ℕ) → Texts text → Others text) → Told Texts old new r → Told Others old new r
told-as Texts Others old new (Ok a) turn told = record { text = told.text; is = turn told.text told.is; noted = told.noted }
told-as Texts Others old new (Err status) turn told =
    record { front = told.front; rest = told.rest; is = turn (told.front ++ told.rest) told.is; noted = told.noted }

-- nothing behind a text, and nothing before it
nothing-last : (Texts : List ℕ → Type 0) (text : List ℕ) → Joins Texts (Is []) text → Texts text
nothing-last Texts text j =
    subst Texts (sym (j.parts ∙ ap (λ (l : List ℕ). j.first ++ l) j.is_second ∙ append-nil j.first)) j.is_first

nothing-first : (Texts : List ℕ → Type 0) (text : List ℕ) → Joins (Is []) Texts text → Texts text
nothing-first Texts text j = subst Texts (sym (j.parts ∙ ap (λ (l : List ℕ). l ++ j.second) j.is_first)) j.is_second

-- one text behind another
two-lines : (a b : List ℕ) (text : List ℕ) → Joins (Is a) (Is b) text → Is (a ++ b) text
two-lines a b text j =
    j.parts ∙ ap (λ (l : List ℕ). l ++ j.second) j.is_first ∙ ap (λ (l : List ℕ). a ++ l) j.is_second

-- ---- Stages

-- a stage that leaves the notes
pub quiet-told : {A : Type 0} (old new : NotesSeen) (r : Result A Status) → new ≡ old → Told (Is []) old new r
quiet-told old new (Ok a) same = record { text = []; is = refl; noted = nothing old new same }
quiet-told old new (Err status) same = record { front = []; rest = []; is = refl; noted = nothing old new same }

-- one whose value is noted by one line
pub noting-told : {A : Type 0} (stage : Stage A) (line : List ℕ) (old new : Inputs) (r : Result A Status) →
    Noting stage (λ a. line) old new r → Told (Is line) old.notes new.notes r
noting-told stage line old new (Ok a) is = record { text = line; is = refl; noted = is.1 }
noting-told stage line old new (Err status) is =
    record { front = []; rest = line; is = refl; noted = nothing old.notes new.notes is.1 }

-- two stages
pub then-told : {A B : Type 0} (first : NotedStage A) (second : A → NotedStage B) (First Second : List ℕ → Type 0) (some : List ℕ) → Second some
    → ((old new : Inputs) (r : Result A Status) → first old new r → Told First old.notes new.notes r)
    → ((a : A) (old new : Inputs) (r : Result B Status) → second a old new r → Told Second old.notes new.notes r)
    → (old new : Inputs) (r : Result B Status) → Then first second old new r → Told (Joins First Second) old.notes new.notes r
then-told first second First Second some is one two old new r (inl stops) =
    subst (Told (Joins First Second) old.notes new.notes) (sym stops.answer)
    (front-more First Second old.notes new.notes some is (one old new (Err stops.status) stops.refused))
then-told first second First Second some is one two old new (Ok b) (inr goes) =
    all-all First Second old.notes goes.between.notes new.notes (one old goes.between (Ok goes.value) goes.given)
    (two goes.value goes.between new (Ok b) goes.rest)
then-told first second First Second some is one two old new (Err status) (inr goes) =
    all-front First Second old.notes goes.between.notes new.notes (one old goes.between (Ok goes.value) goes.given)
    (two goes.value goes.between new (Err status) goes.rest)

-- two stages, of which the second notes nothing
pub last-told : {A B : Type 0} (first : NotedStage A) (second : A → NotedStage B) (Texts : List ℕ → Type 0)
    → ((old new : Inputs) (r : Result A Status) → first old new r → Told Texts old.notes new.notes r)
    → ((a : A) (old new : Inputs) (r : Result B Status) → second a old new r → new.notes ≡ old.notes)
    → (old new : Inputs) (r : Result B Status) → Then first second old new r → Told Texts old.notes new.notes r
last-told first second Texts one quiet old new r is =
    told-as (Joins Texts (Is [])) Texts old.notes new.notes r (nothing-last Texts)
    (then-told first second Texts (Is []) [] refl one (λ a old new r is. quiet-told old.notes new.notes r (quiet a old new r is)) old new r is)

-- two stages, of which the first notes nothing
pub first-told : {A B : Type 0} (first : NotedStage A) (second : A → NotedStage B) (Texts : List ℕ → Type 0) (some : List ℕ) → Texts some
    → ((old new : Inputs) (r : Result A Status) → first old new r → new.notes ≡ old.notes)
    → ((a : A) (old new : Inputs) (r : Result B Status) → second a old new r → Told Texts old.notes new.notes r)
    → (old new : Inputs) (r : Result B Status) → Then first second old new r → Told Texts old.notes new.notes r
first-told first second Texts some is quiet two old new r goes =
    told-as (Joins (Is []) Texts) Texts old.notes new.notes r (nothing-first Texts)
    (then-told first second (Is []) Texts some is (λ old new r is. quiet-told old.notes new.notes r (quiet old new r is)) two old new r goes)

-- files that are taken in one after the other
each-told : {A : Type 0} (stage : Named → NotedStage A) (line : Named → List ℕ)
    → ((file : Named) (old new : Inputs) (r : Result A Status) → stage file old new r → Told (Is (line file)) old.notes new.notes r)
    → (before : List A) (files : List Named) (old new : Inputs) (r : Result (List A) Status) → TakesEachAfter stage before files old new r
    → Told (Is (each_note line files)) old.notes new.notes r
each-told stage line one before [] old new r is = quiet-told old.notes new.notes r (ap (λ (i : Inputs). i.notes) is.same)
each-told stage line one before (file ∷ files) old new r is =
    told-as (Joins (Is (line file)) (Is (each_note line files))) (Is (line file ++ each_note line files)) old.notes new.notes r
    (two-lines (line file) (each_note line files))
    (then-told (stage file) (λ a. TakesEachAfter stage (before ++ a ∷ []) files) (Is (line file)) (Is (each_note line files))
    (each_note line files) refl (one file) (λ a old new r. each-told stage line one (before ++ a ∷ []) files old new r) old new r is)

-- ---- The files of a world

-- a map that nobody has
abbrev pub no_map : MapValue
no_map = record { nodes = []; ways = []; links = []; restrictions = [] }

-- notes on a map's file
map-notes : (file : Named) → AreMapNotes file (read_notes file 0 ++ map_note file no_map)
map-notes file = record { read = 0; map = no_map; is = refl }

-- none of them was written
map-none : (file : Named) (old new : NotesSeen) → new ≡ old → ToldFront (AreMapNotes file) old new
map-none file old new same = record {
  front = [];
  rest = read_notes file 0 ++ map_note file no_map;
  is = map-notes file;
  noted = nothing old new same;
}

-- the stage of a map
map-told : (file : Named) (old new : Inputs) (r : Result MapValue Status) → TakesMap file old new r →
    Told (AreMapNotes file) old.notes new.notes r
map-told file old new _ (takes.failed fails same) = map-none file old.notes new.notes same
map-told file old new _ (takes.missing opens same) = map-none file old.notes new.notes same
map-told file old new (Ok map) (takes.reading {bytes = bytes} opens reads answer is) = record {
  text = read_notes file (length bytes) ++ map_note file map;
  is = record { read = length bytes; map = map; is = refl };
  noted = is;
}
map-told file old new (Err status) (takes.reading {bytes = bytes} opens reads answer is) = record {
  front = read_notes file (length bytes);
  rest = map_note file no_map;
  is = record { read = length bytes; map = no_map; is = refl };
  noted = is;
}

-- the stage of tiles
tiles-told : (files : List Named) (old new : Inputs) (r : Result Tiles Status) → TakesTiles files old new r →
    Told (Is (each_note tile_note files)) old.notes new.notes r
tiles-told files old new (Ok tiles) is =
    each-told NotesTile tile_note (λ file. noting-told (TakesTile file) (tile_note file)) [] files old new (Ok is.reliefs) is.taken
tiles-told files old new (Err status) is =
    each-told NotesTile tile_note (λ file. noting-told (TakesTile file) (tile_note file)) [] files old new (Err status) is

-- notes on a world
pub world-notes : (files : WorldFiles) → AreWorldNotes files (table_note files.lookups ++ (each_note profile_note files.profiles ++
    ((read_notes files.map 0 ++ map_note files.map no_map) ++ each_note tile_note files.tiles)))
world-notes files = joined _ _ _ _ refl (joined _ _ _ _ refl (joined _ _ _ _ (map-notes files.map) refl))
  where
    joined : (First Second : List ℕ → Type 0) (a b : List ℕ) → First a → Second b → Joins First Second (a ++ b)
    joined First Second a b one two = record { first = a; second = b; is_first = one; is_second = two; parts = refl }

-- the stage of a world
pub world-told : (files : WorldFiles) (old new : Inputs) (r : Result OfferedValue Status) → TakesWorld files old new r →
    Told (AreWorldNotes files) old.notes new.notes r
world-told files =
    let some = world-notes files in
    then-told _ _ (Is (table_note files.lookups)) _ some.second some.is_second
    (noting-told (TakesTable files.lookups) (table_note files.lookups))
    (λ table. then-told _ _ (Is (each_note profile_note files.profiles)) _ some.is_second.second some.is_second.is_second
    (each-told (NotesNamed table) profile_note (λ file. noting-told (TakesNamed table file) (profile_note file)) [] files.profiles)
    (λ profiles. then-told _ _ (AreMapNotes files.map) (Is (each_note tile_note files.tiles)) (each_note tile_note files.tiles) refl
    (map-told files.map)
    (λ map. last-told _ _ (Is (each_note tile_note files.tiles)) (tiles-told files.tiles)
    (λ tiles old new r is. ap (λ (i : Inputs). i.notes) is.same))))

-- ---- Profiles that are made ready

-- notes on them
pub ready-notes : (files : List Named) → ToldAll (AreReadyNotes files) (record { sink = record { held = None; faults = 0 }; is_on = false })
    (record { sink = record { held = None; faults = 0 }; is_on = false })
ready-notes [] = record { text = []; is = refl; noted = noted-none _ }
ready-notes (file ∷ files) =
    all-all (IsReadyNote file) (AreReadyNotes files) _ _ _
    (record { text = ready_note {T = Unit {0}} file (Ok tt); is = record { result = Ok tt; is = refl }; noted = noted.silent refl refl })
    (ready-notes files)

-- the first of them were made ready
pub ready-told : (world : WorldValue) (stored : List Stored) (place : ℕ) (files : List Named) (old new : NotesSeen) →
    ReadiesFrom world stored place files old new → ToldAll (AreReadyNotes files) old new
ready-told world stored place [] old new same = record { text = []; is = refl; noted = nothing old new same }
ready-told world stored place (file ∷ files) old new is =
    all-all (IsReadyNote file) (AreReadyNotes files) old is.between new
    (record { text = ready_note file is.result; is = record { result = is.result; is = refl }; noted = is.noted })
    (ready-told world stored (place + 1) files is.between new is.rest)

-- ---- What is written

-- what was noted is a front of the text that the sink has behind its old bytes
front-written : (front rest : List ℕ) (old new : NotesSeen) → IsNoted front old new → HasFront (front ++ rest) old.sink new.sink
front-written front rest old new (noted.whole on still held) = record { front = front; rest = rest; parts = refl; held = held }
front-written front rest old new (noted.broken on off part) = record {
  front = part.front;
  rest = part.rest ++ rest;
  parts = ap (λ (l : List ℕ). l ++ rest) part.parts ∙ append_assoc part.front part.rest rest;
  held = part.held;
}
front-written front rest old new (noted.silent off same) =
    subst (λ (s : NotesSeen). HasFront (front ++ rest) old.sink s.sink) (sym same) (front-none (front ++ rest) old.sink)

-- where no note is written any more, nothing is
silent-same : (text : List ℕ) (old new : NotesSeen) → old.is_on ≡ false → IsNoted text old new → new.sink ≡ old.sink
silent-same text old new off (noted.whole on still held) = absurd (let clash : true ≡ false = sym on ∙ off in cc)
silent-same text old new off (noted.broken on still part) = absurd (let clash : true ≡ false = sym on ∙ off in cc)
silent-same text old new off (noted.silent still same) = ap (λ (s : NotesSeen). s.sink) same

-- neither of two tests holds where the second doesn't
off-and : (b : Bool) → (b && false) ≡ false
off-and true = refl
off-and false = refl

-- a front that was noted where notes are wanted or not
pub front-writes : (Texts : List ℕ → Type 0) (wanted : Bool) (old new : NotesSeen) → ToldFront Texts (heard wanted old) new →
    WritesIf wanted Texts old.sink new.sink
front-writes Texts true old new told = record {
  text = told.front ++ told.rest;
  is = told.is;
  front = front-written told.front told.rest (heard true old) new told.noted;
}
front-writes Texts false old new told = silent-same told.front (heard false old) new (off-and old.is_on) told.noted

-- where nothing happened, nothing was written
pub none-writes : (Texts : List ℕ → Type 0) (wanted : Bool) (some : List ℕ) (old new : SinkSeen) → Texts some → new ≡ old →
    WritesIf wanted Texts old new
none-writes Texts true some old new is same =
    record { text = some; is = is; front = subst (λ (s : SinkSeen). HasFront some old s) (sym same) (front-none some old) }
none-writes Texts false some old new is same = same
