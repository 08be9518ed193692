-- What a clock's script is, line by line, and its first fault.
use Rattle.std.specs.Prelude.{◌≡◌, ◌≢◌, ℕ, ◌+◌, ◌^◌, ◌<◌, ◌≤◌, nat_le, if◌then◌else◌, List, [], ◌∷◌, Option, Some, None, ◌⊎◌, codes, length, IsUtf8}
use Rattle.std.specs.Fmt.{decimal}
use Rattle.std.specs.Str.{bytes_eq}
use Rattle.line_text.specs.Lines.{lines_of}
use Rattle.line_text.specs.ReadNumbers.{number_below, small_number}
use Rattle.line_text.specs.Scripts.{is_skipped, first_words}
use Rattle.line_text.specs.Words.{words_of}
use Rattle.omx_types.specs.declared.fault.ScriptWhy.{ScriptWhy}
use Rattle.omx_types.specs.declared.fault.ScriptWhy.TheVariants as whys
use Rattle.clock_core.specs.Clock.{HasMediaWithin}
use Rattle.clock_core.specs.declared.act.ClockAct.{ClockAct}
use Rattle.clock_core.specs.declared.act.ClockAct.TheVariants.{Start, Stop, Scale, Wait, Port, Ask, Cancel, Pass}
use Rattle.clock_core.specs.declared.act.TimedAct.{TimedAct}
use Rattle.clock_core.specs.declared.script.Said.{Said}
use Rattle.clock_core.specs.declared.script.Said.TheVariants.{Nothing, Call, Fault}

abbrev pub within : ℕ → Option ℕ → Option ℕ
within limit None = None
within limit (Some n) = if nat_le n limit then Some n else None

-- a wall moment or a media time
abbrev pub moment_of : List ℕ → Option ℕ
moment_of word = within (2 ^ 53) (number_below (2 ^ 64) word)

abbrev pub act_of_one : List ℕ → Option ClockAct
act_of_one name = if bytes_eq name (codes "stop") then Some Stop else (if bytes_eq name (codes "pass") then Some Pass else None)

abbrev pub start_of : Option ℕ → Option ClockAct
start_of None = None
start_of (Some media) = Some (Start media)

abbrev pub scale_of : Option ℕ → Option ClockAct
scale_of None = None
scale_of (Some scale) = Some (Scale scale)

abbrev pub wait_of : Option ℕ → Option ClockAct
wait_of None = None
wait_of (Some mask) = Some (Wait mask)

abbrev pub cancel_of : Option ℕ → Option ClockAct
cancel_of None = None
cancel_of (Some id) = Some (Cancel id)

abbrev pub act_of_two : List ℕ → List ℕ → Option ClockAct
act_of_two name number =
    if bytes_eq name (codes "start") then start_of (moment_of number)
    else (if bytes_eq name (codes "scale") then scale_of (small_number number)
    else (if bytes_eq name (codes "wait") then wait_of (within 255 (small_number number))
    else (if bytes_eq name (codes "cancel") then cancel_of (number_below (2 ^ 64) number)
    else None)))

abbrev pub port_of : Option ℕ → Option ℕ → Option ClockAct
port_of (Some port) (Some media) = Some (Port port media)
port_of port media = None

abbrev pub ask_of : Option ℕ → Option ℕ → Option ClockAct
ask_of (Some id) (Some media) = Some (Ask id media)
ask_of id media = None

abbrev pub act_of_three : List ℕ → List ℕ → List ℕ → Option ClockAct
act_of_three name number media =
    if bytes_eq name (codes "port") then port_of (within 7 (small_number number)) (moment_of media)
    else (if bytes_eq name (codes "ask") then ask_of (number_below (2 ^ 64) number) (moment_of media)
    else None)

abbrev pub act_of : List (List ℕ) → Option ClockAct
act_of (one ∷ []) = act_of_one one
act_of (one ∷ two ∷ []) = act_of_two one two
act_of (one ∷ two ∷ three ∷ []) = act_of_three one two three
act_of words = None

abbrev pub timed : Option ℕ → Option ClockAct → Option TimedAct
timed (Some wall) (Some act) = Some (record { wall = wall; act = act })
timed wall act = None

-- a wall moment and an act
abbrev pub timed_of : List (List ℕ) → Option TimedAct
timed_of (wall ∷ words) = timed (moment_of wall) (act_of words)
timed_of words = None

-- `at`, and these
abbrev pub call_of : List (List ℕ) → Option TimedAct
call_of (first ∷ words) = if bytes_eq first (codes "at") then timed_of words else None
call_of words = None

abbrev pub said_of_call : Option TimedAct → Said
said_of_call None = Fault whys.BadWord
said_of_call (Some call) = Call call

-- what the words of a line say
abbrev pub said_of : List (List ℕ) → Said
said_of words = if is_skipped words then Nothing else said_of_call (call_of words)

-- what a line says
abbrev pub Says : List ℕ → Said → Type 0
Says line said = (IsUtf8 line × (said ≡ said_of (words_of line))) ⊎ ((IsUtf8 line → ⊥) × (said ≡ Fault whys.NotText))

-- ---- how a call is written

abbrev pub act_words : ClockAct → List (List ℕ)
act_words (Start media) = codes "start" ∷ decimal media ∷ []
act_words Stop = codes "stop" ∷ []
act_words (Scale scale) = codes "scale" ∷ decimal scale ∷ []
act_words (Wait mask) = codes "wait" ∷ decimal mask ∷ []
act_words (Port port media) = codes "port" ∷ decimal port ∷ decimal media ∷ []
act_words (Ask id media) = codes "ask" ∷ decimal id ∷ decimal media ∷ []
act_words (Cancel id) = codes "cancel" ∷ decimal id ∷ []
act_words Pass = codes "pass" ∷ []

abbrev pub call_words : TimedAct → List (List ℕ)
call_words call = codes "at" ∷ decimal call.wall ∷ act_words call.act

-- a call that a clock takes
abbrev pub IsCall : TimedAct → Type 0
IsCall call = (call.wall ≤ 2 ^ 53) × HasMediaWithin call.act

-- ---- scripts

abbrev pub IsNoFault : Said → Type 0
IsNoFault (Fault why) = ⊥
IsNoFault other = Unit {0}

abbrev pub IsGoodLine : List ℕ → Type 0
IsGoodLine line = (said : Said) × Says line said × IsNoFault said

abbrev pub AreGood : List (List ℕ) → Type 0
AreGood [] = Unit {0}
AreGood (line ∷ lines) = IsGoodLine line × AreGood lines

-- the first line that says a fault, numbered from the number on
abbrev pub FaultsFrom : ℕ → List (List ℕ) → ℕ → ScriptWhy → Type 0
FaultsFrom number [] line why = ⊥
FaultsFrom number (first ∷ lines) line why = (Says first (Fault why) × (line ≡ number)) ⊎ (IsGoodLine first × FaultsFrom (number + 1) lines line why)

abbrev pub clock_words : List (List ℕ)
clock_words = first_words (codes "clock")

-- the first line is that of a clock's script, and then the others count
abbrev pub FaultsIn : List (List ℕ) → ℕ → ScriptWhy → Type 0
FaultsIn [] line why = (line ≡ 1) × (why ≡ whys.FirstLine)
FaultsIn (first ∷ lines) line why =
    ((IsUtf8 first → ⊥) × (line ≡ 1) × (why ≡ whys.NotText))
    ⊎ (IsUtf8 first × (words_of first ≢ clock_words) × (line ≡ 1) × (why ≡ whys.FirstLine))
    ⊎ (IsUtf8 first × (words_of first ≡ clock_words) × FaultsFrom 2 lines line why)

-- the first fault of a text
abbrev pub IsFaulty : List ℕ → ℕ → ScriptWhy → Type 0
IsFaulty text line why =
    ((65536 < length text) × (line ≡ 0) × (why ≡ whys.TooLong))
    ⊎ ((length text ≤ 65536) × FaultsIn (lines_of text) line why)

-- a text whose first line is that of a clock's script, with these lines behind it
pub record Begins (text : List ℕ) (lines : List (List ℕ)) : Type 0 where
  pub first : List ℕ
  pub short : length text ≤ 65536
  pub parted : lines_of text ≡ first ∷ lines
  pub is_text : IsUtf8 first
  pub is_first : words_of first ≡ clock_words

-- the text is a clock's script
abbrev pub IsScript : List ℕ → Type 0
IsScript text = (lines : List (List ℕ)) × Begins text lines × AreGood lines
