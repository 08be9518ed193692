-- The entries of a history, by passes and as a log has them.
use Rattle.std.specs.Prelude.{◌≡◌, ℕ, Bool, true, false, All, List, slice_get, Some}
use Rattle.play_log.specs.Entries.{Entry, is_unprinted, step_of}
use Rattle.play_history_laws.specs.Refused.{is_refused}
use Rattle.play_history_laws.specs.Requests.{is_request}

-- the other passes request nothing
abbrev pub RequestAlone : (ℕ → Bool) → List Entry → Type 0
RequestAlone own entries = (place : ℕ) (entry : Entry) → slice_get entries place ≡ Some entry → own entry.pass ≡ false → is_request (step_of entry) ≡ false

-- of what nobody need ask for nothing was refused
abbrev pub AreUnrefused : List Entry → Type 0
AreUnrefused entries = All (λ entry. is_request (step_of entry) ≡ false → is_refused entry.reply ≡ false) entries

-- each request has a line in a log
abbrev pub HaveLines : List Entry → Type 0
HaveLines entries = All (λ entry. is_request (step_of entry) ≡ true → is_unprinted entry.reply ≡ false) entries
