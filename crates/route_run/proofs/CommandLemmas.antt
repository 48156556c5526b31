-- How often the files of each command are opened, and the cause of each of its statuses.
use Rattle.std.proofs.Common.{ℕ, inl, inr, Bool, true, false, cond, ◌==◌, List, [], ◌∷◌, ◌++◌, Option, Some, None, Result, Ok, Err, ◌≡◌, refl, ap, ◌∙◌, sym, subst}
use Rattle.certificate_text.specs.declared.certificate.Certificate.{Certificate}
use Rattle.command_words.specs.Given.{Named}
use Rattle.command_words.specs.declared.command.CheckCommand.{CheckCommand}
use Rattle.command_words.specs.declared.command.CodeCommand.{CodeCommand}
use Rattle.command_words.specs.declared.command.Command.{Command}
use Rattle.command_words.specs.declared.command.Command as Form
use Rattle.command_words.specs.declared.command.GridCommand.{GridCommand}
use Rattle.command_words.specs.declared.command.RouteCommand.{RouteCommand}
use Rattle.command_words.specs.declared.command.ServeCommand.{ServeCommand}
use Rattle.context_check.specs.Refusal.{refusal_of}
use Rattle.edge_io.specs.Files.{FilesSeen}
use Rattle.hgt_tiles.specs.File.{relief_of_file}
use Rattle.hgt_tiles.specs.Relief.{Relief}
use Rattle.hgt_tiles.specs.declared.tile_set.Tiles.{Tiles}
use Rattle.item_list.specs.Answer.{and_then, answer_map}
use Rattle.lookup_table.specs.First.{TagTable}
use Rattle.lookup_table.specs.Table.{table_of}
use Rattle.overpass_graph.specs.Maps.{MapValue}
use Rattle.profile_text.specs.Read.{profile_of}
use Rattle.profile_text.specs.Tree.{Sections}
use Rattle.route_certificate.specs.declared.verdict.Verdict.{Verdict}
use Rattle.route_certificate.specs.declared.verdict.Verdict.TheVariants.{Yes, No}
use Rattle.route_engine.specs.Replies.{question_of}
use Rattle.route_engine.specs.Settings.{Question}
use Rattle.route_http.specs.Asked.{Asked}
use Rattle.route_http.specs.Request.{lined_of, request_of, tabled_of}
use Rattle.route_ready.specs.Worlds.{WorldValue}
use Rattle.route_ready.specs.declared.error.RouteError.{RouteError}
use Rattle.route_run.proofs.CauseLemmas.{Cause, IsInner, each-cause, file-cause, files_in, itself, last-cause, leaves-cause, map-cause, noting-cause, opens-none, settles-cause, then-cause}
use Rattle.route_run.specs.Offer.{MakesReady, Offer, Offers, Opens, offer_over, serve_files}
use Rattle.route_run.specs.Outcome.{IsCommandAnswer, IsQueryWord, check_words, file_words, profile_words, words_in, world_words}
use Rattle.run_answers.specs.Asks.{AnswersQuery, IsAnsweredBy, IsAnsweredOver}
use Rattle.run_answers.specs.Certify.{IsWritten}
use Rattle.run_answers.specs.Check.{IsCheckedAnswer, IsTested, TellsVerdict}
use Rattle.run_answers.specs.Code.{IsCodeAnswer, listing_in, listing_under}
use Rattle.run_answers.specs.First.{first_in, first_of}
use Rattle.run_answers.specs.Grid.{IsGridAnswerBy, IsPricedAnswer, IsShortestAnswer, question_by}
use Rattle.run_answers.specs.Hills.{IsHillsAnswer}
use Rattle.run_answers.specs.Make.{made_by}
use Rattle.run_answers.specs.Refused.{IsRefusal}
use Rattle.run_answers.specs.Route.{IsReplied, any_in, route_files}
use Rattle.run_answers.specs.Table.{IsTabled, tabled_query}
use Rattle.run_answers.specs.Within.{IsNearbyTold, costed, near_in}
use Rattle.run_files.specs.Certificate.{IsCertificateIn, TakesCertificate}
use Rattle.run_files.specs.Chain.{seen_as}
use Rattle.run_files.specs.Checked.{TakesChecked, checked_by, checked_in}
use Rattle.run_files.specs.NoteLines.{certificate_note, profile_note, table_note, tile_note}
use Rattle.run_files.specs.Notes.{Inputs}
use Rattle.run_files.specs.Profile.{TakesProfile, profile_in}
use Rattle.run_files.specs.Profiles.{NamedProfile, NotesNamed, TakesNamed, named_by, profile_named}
use Rattle.run_files.specs.Query.{query_in}
use Rattle.run_files.specs.TagTable.{TakesTable, table_in}
use Rattle.run_files.specs.Tiles.{NotesTile, TakesTile, TakesTiles, tile_in}
use Rattle.run_files.specs.World.{OfferedValue, TakesWorld, WorldFiles}
use Rattle.run_files.specs.declared.status.Status.{Status}
use Rattle.run_files.specs.declared.status.Status.TheVariants as told
use Rattle.run_files.specs.declared.status.Status.TheVariants.{Usage, Query, Lookup, Text, Check, Tile, Refuted}

-- the words that may be told at fault are these
module _ (Faulty : ℕ → Type 0)
  where
    -- ---- What refuses without a file

    -- a reader's refusal is of the kind of its word
    mapped-inner : {A E : Type 0} (told : E → Status) (r : Result A E) → ((e : E) → IsInner Faulty (told e)) → (status : Status) →
        answer_map (λ (a : A). a) told r ≡ Err status → IsInner Faulty status
    mapped-inner told (Ok a) inner status is = cc
    mapped-inner told (Err e) inner status is = let same : told e ≡ status = cc in subst (IsInner Faulty) same (inner e)

    -- whatever a value is seen as
    seen-inner : {A B E : Type 0} (view : A → B) (told : E → Status) (r : Result A E) → ((e : E) → IsInner Faulty (told e)) →
        (status : Status) → answer_map view told r ≡ Err status → IsInner Faulty status
    seen-inner view told (Ok a) inner status is = cc
    seen-inner view told (Err e) inner status is = let same : told e ≡ status = cc in subst (IsInner Faulty) same (inner e)

    -- so is that of the check
    checked-inner : (word : ℕ) (table : TagTable) (sections : Sections) (status : Status) → checked_in word table sections ≡ Err status →
        IsInner Faulty status
    checked-inner word table sections status is =
        elim (refusal_of table sections []) as (λ r. checked_by word sections r ≡ Err status → IsInner Faulty status) [
          | Some error ↦ λ e. let same : Check word error ≡ status = cc in subst (IsInner Faulty) same tt
          | None ↦ λ e. cc
        ] is

    -- and that of the listing
    listing-inner : (word : ℕ) (table : TagTable) (sections : Sections) (status : Status) → listing_in word table sections ≡ Err status →
        IsInner Faulty status
    listing-inner word table sections status is =
        elim (refusal_of table sections []) as (λ r. seen_as (listing_under table) (checked_by word sections r) ≡ Err status →
        IsInner Faulty status) [
          | Some error ↦ λ e. let same : Check word error ≡ status = cc in subst (IsInner Faulty) same tt
          | None ↦ λ e. cc
        ] is

    -- the refusal of a request
    refusal-inner : (Refuses : RouteError → Type 0) (profile : Option Sections) (status : Status) → IsRefusal Refuses profile status →
        IsInner Faulty status
    refusal-inner Refuses profile status (inl none) = subst (IsInner Faulty) (sym none) tt
    refusal-inner Refuses profile status (inr tells) = subst (IsInner Faulty) (sym tells.is) tt

    -- the refusal of a request by a profile, where there is one
    answered-inner : (answers : Question → Result (List ℕ) Status → Type 0) →
        ((question : Question) (status : Status) → answers question (Err status) → IsInner Faulty status) → (profile : Option Sections)
        (world : WorldValue) (asked : Asked) (status : Status) → IsAnsweredBy answers profile world asked (Err status) → IsInner Faulty status
    answered-inner answers inner (Some sections) world asked status is = inner (question_of world sections asked) status is
    answered-inner answers inner None world asked status is = refusal-inner _ _ status is

    -- a query that is none
    any-inner : (query : Named) (status : Status) → any_in query ≡ Err status → IsInner Faulty status
    any-inner query status is = mapped-inner Query (request_of query.name) (λ e. tt) status is

    -- so it is with one that asks for costs between waypoints
    tabled-inner : (query : Named) (status : Status) → tabled_query query ≡ Err status → IsInner Faulty status
    tabled-inner query status is = mapped-inner Query (tabled_of query.name) (λ e. tt) status is

    -- so it is with one that asks for what lies within a cost
    near-inner : (cost : ℕ) (query : Named) (status : Status) → near_in cost query ≡ Err status → IsInner Faulty status
    near-inner cost query status is = seen-inner (costed cost) Query (lined_of query.name) (λ e. tt) status is

    -- a query that asks for no first track, where its word may be told at fault
    first-inner : (query : Named) → Faulty query.word → (status : Status) → first_in query ≡ Err status → IsInner Faulty status
    first-inner query may status is = go (query_in query.name) refl is
      where
        asked-inner : (asked : Asked) → first_of query.word asked ≡ Err status → IsInner Faulty status
        asked-inner asked e = two (asked.alternative == 0) e
          where
            two : (b : Bool) → cond b (Ok asked) (Err (Usage query.word)) ≡ Err status → IsInner Faulty status
            two true e = cc
            two false e = let same : Usage query.word ≡ status = cc in subst (IsInner Faulty) same may

        go : (r : Result Asked Status) → query_in query.name ≡ r → and_then r (first_of query.word) ≡ Err status → IsInner Faulty status
        go (Ok asked) read e = asked-inner asked e
        go (Err refusal) read e =
            let same : refusal ≡ status = cc in
            mapped-inner Query (request_of query.name) (λ e. tt) status (read ∙ ap Err same)

    -- the verdict on a certificate, where it is told as a refusal
    verdict-inner : (verdict : Verdict) (status : Status) → TellsVerdict verdict (Err status) → IsInner Faulty status
    verdict-inner verdict status (inl none) = subst (IsInner Faulty) (sym none) tt
    verdict-inner (Yes cost) status (inr is) = cc
    verdict-inner (No leg why) status (inr is) = let same : Refuted leg why ≡ status = cc in subst (IsInner Faulty) same tt

    -- the refusal of a certificate
    tested-inner : (certificate : Certificate) (question : Question) (status : Status) → IsTested question certificate (Err status) →
        IsInner Faulty status
    tested-inner certificate question status (inl judged) = verdict-inner judged.verdict status judged.tells
    tested-inner certificate question status (inr refused) = refusal-inner _ _ status refused

    -- the refusal of a certificate's text
    certificate-inner : (map : MapValue) (word : ℕ) (text : List ℕ) (status : Status) → IsCertificateIn map word text (Err status) →
        IsInner Faulty status
    certificate-inner map word text (told.Certificate at error) is = tt
    certificate-inner map word text told.NoMemory is = tt
    certificate-inner map word text told.Done is = absurd is
    certificate-inner map word text (told.Usage at) is = absurd is
    certificate-inner map word text (told.Query error) is = absurd is
    certificate-inner map word text (told.TooLong at) is = absurd is
    certificate-inner map word text (told.Lookup at error) is = absurd is
    certificate-inner map word text (told.Text at error) is = absurd is
    certificate-inner map word text (told.Check at error) is = absurd is
    certificate-inner map word text (told.Map at error) is = absurd is
    certificate-inner map word text (told.Tile at error) is = absurd is
    certificate-inner map word text (told.Route error line) is = absurd is
    certificate-inner map word text (told.Refuted leg why) is = absurd is
    certificate-inner map word text (told.NotFound at) is = absurd is
    certificate-inner map word text (told.ReadFault at) is = absurd is
    certificate-inner map word text told.WriteFault is = absurd is
    certificate-inner map word text told.TurnsSpent is = absurd is
    certificate-inner map word text told.HubFault is = absurd is

    -- ---- The stages of files

    -- the stage of a certificate
    certificate-cause : (map : MapValue) (file : Named) (old new : FilesSeen) (r : Result Certificate Status) →
        TakesCertificate map file old new r → Cause Faulty (file.word ∷ []) old new r
    certificate-cause map file =
        last-cause Faulty itself _ _ (file.word ∷ []) (file-cause Faulty file _)
        (λ text. leaves-cause Faulty itself (IsCertificateIn map file.word text) (certificate-inner map file.word text))

    -- the stage of the tag table
    table-cause : (file : Named) (old new : FilesSeen) (r : Result TagTable Status) → TakesTable file old new r →
        Cause Faulty (file.word ∷ []) old new r
    table-cause file =
        last-cause Faulty itself _ _ (file.word ∷ []) (file-cause Faulty file _)
        (λ text. settles-cause Faulty itself (table_in file.word text) (mapped-inner (Lookup file.word) (table_of text) (λ e. tt)))

    -- the stage of the profile
    profile-cause : (file : Named) (old new : FilesSeen) (r : Result Sections Status) → TakesProfile file old new r →
        Cause Faulty (file.word ∷ []) old new r
    profile-cause file =
        last-cause Faulty itself _ _ (file.word ∷ []) (file-cause Faulty file _)
        (λ text. settles-cause Faulty itself (profile_in file.word text) (mapped-inner (Text file.word) (profile_of text) (λ e. tt)))

    -- the stage of the profile with its check
    checked-cause : (table : TagTable) (file : Named) (old new : FilesSeen) (r : Result Sections Status) →
        TakesChecked table file old new r → Cause Faulty (file.word ∷ []) old new r
    checked-cause table file =
        last-cause Faulty itself _ _ (file.word ∷ []) (profile-cause file)
        (λ sections. settles-cause Faulty itself (checked_in file.word table sections) (checked-inner file.word table sections))

    -- the stage of a profile under its name
    named-cause : (table : TagTable) (file : Named) (old new : FilesSeen) (r : Result NamedProfile Status) →
        TakesNamed table file old new r → Cause Faulty (file.word ∷ []) old new r
    named-cause table file =
        last-cause Faulty itself _ _ (file.word ∷ []) (checked-cause table file)
        (λ sections. settles-cause Faulty itself (Ok (named_by file sections)) (λ status none. cc))

    -- the stage of a tile
    tile-cause : (file : Named) (old new : FilesSeen) (r : Result Relief Status) → TakesTile file old new r →
        Cause Faulty (file.word ∷ []) old new r
    tile-cause file =
        last-cause Faulty itself _ _ (file.word ∷ []) (file-cause Faulty file _)
        (λ bytes. settles-cause Faulty itself (tile_in file.word file.name bytes)
        (mapped-inner (Tile file.word) (relief_of_file file.name bytes) (λ e. tt)))

    -- the stage of a tile that is noted
    noted_tile-cause : (file : Named) (old new : Inputs) (r : Result Relief Status) → NotesTile file old new r →
        Cause Faulty (file.word ∷ []) old.files new.files r
    noted_tile-cause file = noting-cause Faulty (TakesTile file) (λ relief. tile_note file) (file.word ∷ []) (tile-cause file)

    -- the stage of a profile that is noted
    noted-cause : (table : TagTable) (file : Named) (old new : Inputs) (r : Result NamedProfile Status) → NotesNamed table file old new r →
        Cause Faulty (file.word ∷ []) old.files new.files r
    noted-cause table file =
        noting-cause Faulty (TakesNamed table file) (λ named. profile_note file) (file.word ∷ []) (named-cause table file)

    -- the stage of tiles
    tiles-cause : (files : List Named) (old new : Inputs) (r : Result Tiles Status) → TakesTiles files old new r →
        Cause Faulty (words_in files) old.files new.files r
    tiles-cause files old new (Ok tiles) is =
        each-cause Faulty files_in NotesTile noted_tile-cause [] files old new (Ok is.reliefs) is.taken
    tiles-cause files old new (Err status) is = each-cause Faulty files_in NotesTile noted_tile-cause [] files old new (Err status) is

    -- the stage of a world
    world-cause : (files : WorldFiles) (old new : Inputs) (r : Result OfferedValue Status) → TakesWorld files old new r →
        Cause Faulty (world_words files) old.files new.files r
    world-cause files =
        then-cause Faulty files_in _ _ (files.lookups.word ∷ []) (words_in files.profiles ++ (files.map.word ∷ words_in files.tiles))
        (noting-cause Faulty (TakesTable files.lookups) (λ table. table_note files.lookups) (files.lookups.word ∷ [])
        (table-cause files.lookups))
        (λ table. then-cause Faulty files_in _ _ (words_in files.profiles) (files.map.word ∷ words_in files.tiles)
        (each-cause Faulty files_in (NotesNamed table) (noted-cause table) [] files.profiles)
        (λ profiles. then-cause Faulty files_in _ _ (files.map.word ∷ []) (words_in files.tiles) (map-cause Faulty files.map)
        (λ map. last-cause Faulty files_in _ _ (words_in files.tiles) (tiles-cause files.tiles)
        (λ tiles. settles-cause Faulty files_in _ (λ status none. cc)))))

    -- ---- The commands

    -- the command `code`
    code-cause : (command : CodeCommand) (old new : FilesSeen) (r : Result (List ℕ) Status) → IsCodeAnswer command old new r →
        Cause Faulty (profile_words (Some command)) old new r
    code-cause command =
        then-cause Faulty itself _ _ (command.lookups.word ∷ []) (command.profile.word ∷ []) (table-cause command.lookups)
        (λ table. last-cause Faulty itself _ _ (command.profile.word ∷ []) (profile-cause command.profile)
        (λ sections. settles-cause Faulty itself (listing_in command.profile.word table sections)
        (listing-inner command.profile.word table sections)))

    -- a command that asks something of its query
    query-cause : (reads : Named → Result Asked Status) (answers : Question → Result (List ℕ) Status → Type 0) (command : RouteCommand) →
        ((status : Status) → reads command.query ≡ Err status → IsInner Faulty status) →
        ((question : Question) (status : Status) → answers question (Err status) → IsInner Faulty status) →
        (old new : Inputs) (r : Result (List ℕ) Status) → AnswersQuery reads answers command old new r →
        Cause Faulty (world_words (route_files command)) old.files new.files r
    query-cause reads answers command reader inner =
        then-cause Faulty files_in _ _ [] (world_words (route_files command)) (settles-cause Faulty files_in (reads command.query) reader)
        (λ asked. last-cause Faulty files_in _ _ (world_words (route_files command)) (world-cause (route_files command))
        (λ offered. leaves-cause Faulty files_in (IsAnsweredOver answers offered asked)
        (answered-inner answers inner (profile_named offered.profiles asked.profile) offered.world asked)))

    -- the command `check`
    check-cause : (command : CheckCommand) → Faulty command.route.query.word → (old new : Inputs) (r : Result (List ℕ) Status) →
        IsCheckedAnswer command old new r → Cause Faulty (check_words command) old.files new.files r
    check-cause command may =
        then-cause Faulty files_in _ _ [] (check_words command)
        (settles-cause Faulty files_in (first_in command.route.query) (first-inner command.route.query may))
        (λ asked. then-cause Faulty files_in _ _ (world_words (route_files command.route)) (command.certificate.word ∷ [])
        (world-cause (route_files command.route))
        (λ offered. last-cause Faulty files_in _ _ (command.certificate.word ∷ []) (noting-cause Faulty (TakesCertificate offered.world.map command.certificate) (λ certificate. certificate_note command.certificate)
        (command.certificate.word ∷ []) (certificate-cause offered.world.map command.certificate))
        (λ certificate. leaves-cause Faulty files_in (IsAnsweredOver (λ question. IsTested question certificate) offered asked)
        (answered-inner (λ question. IsTested question certificate) (tested-inner certificate)
        (profile_named offered.profiles asked.profile) offered.world asked))))

    -- the command `grid`
    grid-cause : (files : Option CodeCommand) (command : GridCommand) (old new : FilesSeen) (r : Result (List ℕ) Status) →
        IsGridAnswerBy files command old new r →
        Cause Faulty (profile_words files) old new r
    grid-cause None command = leaves-cause Faulty itself (IsShortestAnswer command) (refusal-inner _ _)
    grid-cause (Some words) command =
        then-cause Faulty itself _ _ (words.lookups.word ∷ []) (words.profile.word ∷ []) (table-cause words.lookups)
        (λ table. last-cause Faulty itself _ _ (words.profile.word ∷ []) (checked-cause table words.profile)
        (λ sections. leaves-cause Faulty itself (IsPricedAnswer (question_by command table sections)) (refusal-inner _ _)))

    -- each command that has something to write
    pub command-cause : (command : Command) → ((word : ℕ) → IsQueryWord command word → Faulty word) →
        (old new : Inputs) (r : Result (List ℕ) Status) → IsCommandAnswer command old new r →
        Cause Faulty (file_words (Ok command)) old.files new.files r
    command-cause (Form.TheVariants.Grid command) may old new r is = grid-cause command.files command old.files new.files r is.0
    command-cause (Form.TheVariants.Make command) may old new r is =
        settles-cause Faulty files_in (Ok (made_by command)) (λ status none. cc) old new r is
    command-cause (Form.TheVariants.Code command) may old new r is = code-cause command old.files new.files r is.0
    command-cause (Form.TheVariants.Route command) may old new r is =
        query-cause any_in IsReplied command (any-inner command.query) (λ question status is_told. refusal-inner _ _ status is_told) old new r is
    command-cause (Form.TheVariants.Certify command) may old new r is =
        query-cause first_in (IsWritten command.bound) command.route (first-inner command.route.query (may command.route.query.word refl)) (λ question status is_told. refusal-inner _ _ status is_told) old new r is
    command-cause (Form.TheVariants.Check command) may old new r is = check-cause command (may command.route.query.word refl) old new r is
    command-cause (Form.TheVariants.Table command) may old new r is =
        query-cause tabled_query IsTabled command (tabled-inner command.query) (λ question status is_told. refusal-inner _ _ status is_told) old new r is
    command-cause (Form.TheVariants.Within command) may old new r is =
        query-cause (near_in command.cost) IsNearbyTold command.route (near-inner command.cost command.route.query) (λ question status is_told. refusal-inner _ _ status is_told) old new r is
    command-cause (Form.TheVariants.Hills command) may old new r is =
        leaves-cause Faulty files_in (IsHillsAnswer command) (refusal-inner _ _) old new r is
    command-cause (Form.TheVariants.Serve command) may old new r is = absurd is

    -- profiles that are made ready touch no file
    ready-cause : (files : List Named) (offer : Offer) (old new : Inputs) (r : Result Offer Status) → MakesReady files offer old new r →
        Cause Faulty [] old.files new.files r
    ready-cause files offer old new r is =
        subst (Cause Faulty [] old.files new.files) (sym is.gives) (opens-none old.files new.files is.same)

    -- a hall that is opened touches none
    opens-cause : (command : ServeCommand) (offered : OfferedValue) (old new : Inputs) (r : Result Offer Status) →
        Opens command offered old new r → Cause Faulty [] old.files new.files r
    opens-cause command offered =
        then-cause Faulty files_in _ _ [] [] (settles-cause Faulty files_in (Ok (offer_over command.labels offered)) (λ status none. cc))
        (ready-cause command.profiles)

    -- what the command `serve` offers
    pub offers-cause : (command : ServeCommand) (old new : Inputs) (r : Result Offer Status) → Offers command old new r →
        Cause Faulty (file_words (Ok (Form.TheVariants.Serve command))) old.files new.files r
    offers-cause command =
        last-cause Faulty files_in _ _ (world_words (serve_files command)) (world-cause (serve_files command)) (opens-cause command)
