-- What words and setups say of live stations.
use Rattle.std.proofs.Common.{◌≡◌, ◌≢◌, ℕ, List, Option, Some, None, Result, Ok, Err, true, refl, subst, inl, inr, IfErr, IfOk}
use Rattle.clap.specs.Words.{kind_of, takes, Text}
use Rattle.clap.specs.declared.error.Error.{Error}
use Rattle.clap.specs.declared.error.kind.ErrorKind.TheVariants.{OutOfMemory}
use Rattle.folders.specs.declared.named.NamedFile.{NamedFile}
use Rattle.folders.specs.declared.source.LoadFault.{LoadFault}
use Rattle.program_frame.specs.declared.ending.Ending.{Ending}
use Rattle.program_frame.specs.declared.ending.Ending.TheVariants.{CommandLine}
use Rattle.program_frame.specs.declared.ending.Failure.{Failure}
use Rattle.live_program.specs.declared.failure.LiveFailure.{LiveFailure}
use Rattle.live_program.specs.declared.options.Options.{Options}
use Rattle.live_program.specs.Asked.{prompt_app, IsAskedIn, IsWhyNotRead}
use Rattle.live_stations.specs.declared.words.LiveSetup.{LiveSetup}
use Rattle.live_stations.specs.declared.words.LiveSetup.TheVariants.{Live, NoneLive, NotAsked}
use Rattle.live_stations.specs.LiveSetups.{IsLiveAsked, IsLiveUnread, IsSetupAsked}
use Rattle.live_stations.specs.Setups.{IsUntaken}
use Rattle.office_run.specs.Loading.{IsFileFault}
use Rattle.office_run.specs.declared.fault.ServeFault.{ServeFault}

-- what was read is not refused
pub not_refused : {A : Type 0} (refusal : Option LoadFault) (read : Result A LoadFault) (bytes : A) → read ≡ Ok bytes
    → ((fault : LoadFault) → refusal ≡ Some fault → read ≡ Err fault) → refusal ≡ None
not_refused None read bytes is early = refl
not_refused (Some fault) read bytes is early = absurd (let e = early fault refl in cc)

-- words that clap does not take, and not for want of memory
pub not_taken : (words : List Text) (ending : Ending (Failure LiveFailure)) (error : Error) → ending ≡ CommandLine error → IsWhyNotRead words ending → kind_of error ≢ OutOfMemory → IsUntaken words
not_taken words ending error is why other =
    let said : IsWhyNotRead words (CommandLine error) = subst (λ (e : Ending (Failure LiveFailure)). IsWhyNotRead words e) is why in
    inl (λ (taken : takes prompt_app words ≡ true). other (said taken))

-- what the setup of asked words says, where it is loaded
pub asked_live : {S : Type 0} (files : S → Option (List NamedFile)) (failures : S → Option ℕ) (source : S) (words : List Text) (options : Options) (loaded : Result (LiveSetup S) ServeFault)
    → IsAskedIn words options → options.live ≡ true → IfOk loaded (IsSetupAsked files failures source options.setup.now) → IfOk loaded (IsLiveAsked files failures source words)
asked_live files failures source words options (Ok (Live left paths)) asked live found = (options, asked, live, found)
asked_live files failures source words options (Ok (NoneLive left)) asked live found = (options, asked, live, found)
asked_live files failures source words options (Ok (NotAsked left)) asked live found = absurd found
asked_live files failures source words options (Err fault) asked live found = found

-- and why it is not
pub unread_live : {A : Type 0} (files : Option (List NamedFile)) (words : List Text) (options : Options) (loaded : Result A ServeFault)
    → IsAskedIn words options → options.live ≡ true → IfErr loaded (IsFileFault files options.setup.now) → IfErr loaded (IsLiveUnread files words)
unread_live files words options (Ok found) asked live unread = unread
unread_live files words options (Err fault) asked live unread = inr (options, asked, live, unread)
