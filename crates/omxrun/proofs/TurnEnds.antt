-- Where all is told and no count rises, what turning a file comes to.
use Rattle.std.proofs.Common.{◌≡◌, inl, inr, ℕ, ◌≤◌, List, length, Option, Some, Result, Ok, Err, IsTrue, IsFalse, Bool, ap, sym, subst, refl, ◌∙◌, arith}
use Rattle.outside_io.specs.Files.{Outside}
use Rattle.omx_types.specs.declared.fault.Fault.{Fault}
use Rattle.omx_types.specs.declared.fault.Fault.TheVariants as Faults
use Rattle.omx_types.specs.declared.fault.Which.TheVariants as Files
use Rattle.omx_types.specs.declared.fault.WavFault.{WavFault}
use Rattle.omx_types.specs.declared.fault.Status.{Status}
use Rattle.omx_types.specs.declared.fault.Status.TheVariants as Statuses
use Rattle.rtp_parts.specs.Answers.{StoppedPacking, packing_of, counts_of, packets_file}
use Rattle.wav_form.specs.declared.heads.WavHead.{WavHead}
use Rattle.omxrun.specs.Asked.{IsFaultless, IsOrMemory}
use Rattle.omxrun.specs.Packets.{PacksTo, UnpacksTo, StoppedUnpacking, packing_done, with_text}
use Rattle.omxrun.specs.Reports.{IsReported, status_of}
use Rattle.omxrun.specs.Turned.{Written, Giving, Stopping, Comes, HasTurnReason, IsTurnOutcome, CanTurn}
use Rattle.omxrun.specs.declared.done.Done.{Done}
use Rattle.omxrun.proofs.Complete.{ReadsOnce, none-some, same-text, told-status}

abbrev GivesOnce : Giving → Type 0
GivesOnce Gives = (bytes : List ℕ) (one other : Result Written Fault) → Gives bytes one → Gives bytes other → one ≡ other

-- a source that is given to its end stops nowhere
abbrev StopsBelow : Stopping → Type 0
StopsBelow Stops = (size end : ℕ) (told : Option (List ℕ)) (ends : Option ℕ) (at whole : ℕ) → ends ≡ Some end → size ≤ end → Stops size told ends at whole → ⊥

pack-once : ReadsOnce → GivesOnce PacksTo
pack-once once bytes one other (head, reads, is) (found, also, are) =
    let same = once bytes head found reads also in
    is ∙ ap (λ (h : Result WavHead WavFault). with_text (packets_file (packing_of bytes h)) (packing_done (counts_of (packing_of bytes h)))) same ∙ sym are

unpack-once : GivesOnce UnpacksTo
unpack-once bytes one other is are = is ∙ sym are

pack-below : StopsBelow StoppedPacking
pack-below size end told ends at whole told_end fits (inl (short, _)) = let below = short.below in let stopped = short.stopped end told_end in omega (arith, below, stopped, fits)
pack-below size end told ends at whole told_end fits (inr (head, _, _, _, _, nothing)) = let below = nothing.below in let stopped = nothing.stopped end told_end in omega (arith, below, stopped, fits)

unpack-below : StopsBelow StoppedUnpacking
unpack-below size end told ends at whole told_end fits (nothing, _) = let below = nothing.below in let stopped = nothing.stopped end told_end in omega (arith, below, stopped, fits)

true-false : (b : Bool) → IsTrue b → IsFalse b → ⊥
true-false b t f = cc

-- the answers of one input are one
same-answer : (Gives : Giving) (input output : List ℕ) (old : Outside) (answer found : Result Written Fault) → GivesOnce Gives → CanTurn Gives input output old answer → Comes Gives input old found → found ≡ answer
same-answer Gives input output old answer found once can comes =
    once can.bytes found answer (subst (λ (b : List ℕ). Gives b found) (same-text comes.bytes can.bytes (old.file input) comes.held can.given.held) comes.gives) can.gives

of-answer : (fault : Fault) (answer : Result Written Fault) → (let found : Result Written Fault = Err fault in found ≡ answer) → IsOrMemory (Statuses.Fault fault) (status_of answer)
of-answer fault answer same = inl (ap status_of same)

turn-fault : (Gives : Giving) (Stops : Stopping) (input output : List ℕ) (old new : Outside) (before now : ℕ) (answer : Result Written Fault) (fault : Fault) → GivesOnce Gives → StopsBelow Stops → IsFaultless old new before now → CanTurn Gives input output old answer → HasTurnReason Gives Stops input output old new fault → IsOrMemory (Statuses.Fault fault) (status_of answer)
turn-fault Gives Stops input output old new before now answer Faults.ReadFault once below none can reason = absurd (none.read reason.rose)
turn-fault Gives Stops input output old new before now answer Faults.WriteFault once below none can reason = absurd (none.write reason)
turn-fault Gives Stops input output old new before now answer (Faults.Absent Files.Input) once below none can reason = absurd (none-some can.bytes (old.file input) reason.1 can.given.held)
turn-fault Gives Stops input output old new before now answer (Faults.Absent Files.Output) once below none can reason = absurd (true-false (old.may_refuse output) reason.1 can.let_in)
turn-fault Gives Stops input output old new before now answer (Faults.Absent Files.Script) once below none can reason = absurd reason
turn-fault Gives Stops input output old new before now answer (Faults.Absent Files.Log) once below none can reason = absurd reason
turn-fault Gives Stops input output old new before now answer (Faults.Absent (Files.Line line)) once below none can reason = absurd reason
turn-fault Gives Stops input output old new before now answer (Faults.Absent (Files.Made number)) once below none can reason = absurd reason
turn-fault Gives Stops input output old new before now answer Faults.OutOfMemory once below none can reason = inr refl
turn-fault Gives Stops input output old new before now answer (Faults.Short Files.Input at size) once below none can reason =
    let (bytes, held, stops) = reason.1 can.tells in
    let same = same-text bytes can.bytes (old.file input) held can.given.held in
    absurd (below (length bytes) can.given.end (old.file input) (old.ends input) at size can.given.told_end (let e = ap length same in let whole = can.given.whole in omega (arith, e, whole)) stops)
turn-fault Gives Stops input output old new before now answer (Faults.Short Files.Script at size) once below none can reason = absurd reason
turn-fault Gives Stops input output old new before now answer (Faults.Short Files.Log at size) once below none can reason = absurd reason
turn-fault Gives Stops input output old new before now answer (Faults.Short (Files.Line line) at size) once below none can reason = absurd reason
turn-fault Gives Stops input output old new before now answer (Faults.Short (Files.Made number) at size) once below none can reason = absurd reason
turn-fault Gives Stops input output old new before now answer (Faults.Short Files.Output at size) once below none can reason = absurd reason
turn-fault Gives Stops input output old new before now answer (Faults.BadMedia Files.Input fault) once below none can reason =
    of-answer (Faults.BadMedia Files.Input fault) answer (same-answer Gives input output old answer (Err (Faults.BadMedia Files.Input fault)) once can (reason can.tells))
turn-fault Gives Stops input output old new before now answer (Faults.BadMedia Files.Script fault) once below none can reason = absurd reason
turn-fault Gives Stops input output old new before now answer (Faults.BadMedia Files.Log fault) once below none can reason = absurd reason
turn-fault Gives Stops input output old new before now answer (Faults.BadMedia (Files.Line line) fault) once below none can reason = absurd reason
turn-fault Gives Stops input output old new before now answer (Faults.BadMedia (Files.Made number) fault) once below none can reason = absurd reason
turn-fault Gives Stops input output old new before now answer (Faults.BadMedia Files.Output fault) once below none can reason = absurd reason
turn-fault Gives Stops input output old new before now answer (Faults.Packets why) once below none can reason =
    of-answer (Faults.Packets why) answer (same-answer Gives input output old answer (Err (Faults.Packets why)) once can (reason can.tells))
turn-fault Gives Stops input output old new before now answer (Faults.Script line why) once below none can reason = absurd reason
turn-fault Gives Stops input output old new before now answer Faults.Usage once below none can reason = absurd reason
turn-fault Gives Stops input output old new before now answer (Faults.Units have need) once below none can reason = absurd reason
turn-fault Gives Stops input output old new before now answer (Faults.NotRun line why) once below none can reason = absurd reason

turn-ends : (Gives : Giving) (Stops : Stopping) (input output : List ℕ) (old new : Outside) (before now : ℕ) (answer : Result Written Fault) (outcome : Result Done Fault) → GivesOnce Gives → StopsBelow Stops → IsFaultless old new before now → CanTurn Gives input output old answer → IsTurnOutcome Gives Stops input output old new outcome → IsOrMemory (status_of outcome) (status_of answer)
turn-ends Gives Stops input output old new before now answer (Ok done) once below none can is =
    let (text, comes, _) = is.turned can.tells in
    inl (ap status_of (same-answer Gives input output old answer (Ok (record { text = text; done = done })) once can comes))
turn-ends Gives Stops input output old new before now answer (Err fault) once below none can is = turn-fault Gives Stops input output old new before now answer fault once below none can is.reason

abbrev pub HasTurned : Giving → Stopping → List ℕ → List ℕ → Outside → Outside → Option (List ℕ) → Option (List ℕ) → ℕ → ℕ → Status → Type 0
HasTurned Gives Stops input output old new told told_new before now status =
    (outcome : Result Done Fault) × IsTurnOutcome Gives Stops input output old new outcome × IsReported outcome told told_new before now status

complete-turn : (Gives : Giving) (Stops : Stopping) (input output : List ℕ) (old new : Outside) (told told_new : Option (List ℕ)) (before now : ℕ) (answer : Result Written Fault) (status : Status) → GivesOnce Gives → StopsBelow Stops → HasTurned Gives Stops input output old new told told_new before now status → IsFaultless old new before now → CanTurn Gives input output old answer → IsOrMemory status (status_of answer)
complete-turn Gives Stops input output old new told told_new before now answer status once below (outcome, is, printed) none can =
    subst (λ (s : Status). IsOrMemory s (status_of answer)) (sym (told-status outcome told told_new before now status none.print printed)) (turn-ends Gives Stops input output old new before now answer outcome once below none can is)

pub complete_pack : (input output : List ℕ) (old new : Outside) (told told_new : Option (List ℕ)) (before now : ℕ) (answer : Result Written Fault) (status : Status) → ReadsOnce → HasTurned PacksTo StoppedPacking input output old new told told_new before now status → IsFaultless old new before now → CanTurn PacksTo input output old answer → IsOrMemory status (status_of answer)
complete_pack input output old new told told_new before now answer status once has none can = complete-turn PacksTo StoppedPacking input output old new told told_new before now answer status (pack-once once) pack-below has none can

pub complete_unpack : (input output : List ℕ) (old new : Outside) (told told_new : Option (List ℕ)) (before now : ℕ) (answer : Result Written Fault) (status : Status) → HasTurned UnpacksTo StoppedUnpacking input output old new told told_new before now status → IsFaultless old new before now → CanTurn UnpacksTo input output old answer → IsOrMemory status (status_of answer)
complete_unpack input output old new told told_new before now answer status has none can = complete-turn UnpacksTo StoppedUnpacking input output old new told told_new before now answer status unpack-once unpack-below has none can
