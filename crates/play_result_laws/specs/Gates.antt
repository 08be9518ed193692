-- What the gates of a play's workers tell. A gate is called between a claim and the step of its worker; it may tell its counts, one number a
-- component. The first gate is that of the pass 1, and each next one that of the next pass.
use Rattle.std.specs.Prelude.{◌≡◌, ℕ, ◌+◌, ◌<◌, ◌==◌, ◌&&◌, Bool, false, List, [], ◌∷◌, count_by, slice_get, Option, Some, Ok, MatchOption}
use Rattle.std.specs.Str.{bytes_eq}
use Rattle.il_machine.specs.Acts.{Act, Reply}
use Rattle.il_machine.specs.Acts as acts
use Rattle.il_machine.specs.Claims.{ClaimedWork}
use Rattle.act_text.specs.declared.act.TextAct.{TextAct}
use Rattle.act_text.specs.declared.act.TextAct.TheVariants as lines
use Rattle.act_text.specs.declared.reply.TextReply.{TextReply}
use Rattle.act_text.specs.declared.reply.TextReply.TheVariants as texts
use Rattle.script_lang.specs.declared.play_line.PartLine.{PartLine}
use Rattle.play_log.specs.Entries.{Entry}
use Rattle.play_log.specs.Lines.{HasLines, LogLine}

-- ---- of the lines of a log

-- `claim NAME = work`
abbrev pub is_claim_of : List ℕ → TextAct → TextReply → Bool
is_claim_of name (lines.Claim component) texts.Work = bytes_eq component name
is_claim_of name act reply = false

abbrev pub is_claim_by : ℕ → List ℕ → LogLine → Bool
is_claim_by pass name line = line.pass == pass && is_claim_of name (line.said).act (line.said).reply

-- how many of the lines are `claim NAME = work` with that pass
abbrev pub claims_by : ℕ → List ℕ → List LogLine → ℕ
claims_by pass name lines = count_by (is_claim_by pass name) lines

-- where the counts are told, that of each component is the number of these lines
abbrev pub CountsTell : Option (ℕ → ℕ) → ℕ → List PartLine → List LogLine → Type 0
CountsTell counts pass parts lines =
    MatchOption counts (Unit {0}) (λ count. (place : ℕ) (part : PartLine) → slice_get parts place ≡ Some part → count place ≡ claims_by pass part.name lines)

-- so of each gate, from that pass on
abbrev pub GatesTell : {G : Type 0} → (G → Option (ℕ → ℕ)) → ℕ → List G → List PartLine → List LogLine → Type 0
GatesTell counts pass [] parts lines = Unit {0}
GatesTell counts pass (gate ∷ gates) parts lines = CountsTell (counts gate) pass parts lines × GatesTell counts (pass + 1) gates parts lines

-- the gates tell so of the lines of the text
abbrev pub GatesTellLog : {G : Type 0} → (G → Option (ℕ → ℕ)) → List G → List PartLine → List ℕ → Type 0
GatesTellLog counts gates parts text = (lines : List LogLine) × HasLines text lines × GatesTell counts 1 gates parts lines

-- ---- of the entries of a history

-- the component of that number gave a work
abbrev pub is_work_of : ℕ → Act → Reply → Bool
is_work_of number (acts.Claim h) (acts.Claimed (Ok (ClaimedWork work))) = h.generation == number
is_work_of number act reply = false

abbrev pub is_work_by : ℕ → ℕ → Entry → Bool
is_work_by pass number entry = entry.pass == pass && is_work_of number entry.act entry.reply

-- how many works it gave to that pass
abbrev pub works_by : ℕ → ℕ → List Entry → ℕ
works_by pass number entries = count_by (is_work_by pass number) entries

-- where the counts are told, that of each of so many components is the number of these works
abbrev pub CountsMeet : Option (ℕ → ℕ) → ℕ → ℕ → List Entry → Type 0
CountsMeet counts pass components entries =
    MatchOption counts (Unit {0}) (λ count. (number : ℕ) → number < components → count number ≡ works_by pass number entries)

-- so of each gate, from that pass on
abbrev pub GatesMeet : {G : Type 0} → (G → Option (ℕ → ℕ)) → ℕ → List G → ℕ → List Entry → Type 0
GatesMeet counts pass [] components entries = Unit {0}
GatesMeet counts pass (gate ∷ gates) components entries =
    CountsMeet (counts gate) pass components entries × GatesMeet counts (pass + 1) gates components entries
