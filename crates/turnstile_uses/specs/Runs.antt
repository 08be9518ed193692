-- A purse with at most one coin, as a run of acts.
use Rattle.std.specs.Prelude.{◌≡◌, ℕ, List, [], ◌∷◌, ◌++◌, length, Option, Some, None}
use Rattle.turnstile.specs.declared.entry.Entry.{Entry}
use Rattle.turnstile.specs.Entries.{entry, own, Due}
use Rattle.turnstile_uses.specs.declared.coin.Coin.{Coin}
use Rattle.turnstile_uses.specs.declared.purse.Purse.{Purse}
use Rattle.turnstile_uses.specs.declared.coin.Ask.{Ask}
use Rattle.turnstile_uses.specs.declared.coin.Ask.TheVariants.{Take, Back}
use Rattle.turnstile_uses.specs.declared.coin.Answer.{Answer}
use Rattle.turnstile_uses.specs.declared.coin.Answer.TheVariants.{Got, Thanks}

abbrev pub E : Type 0
E = Entry Ask Answer

-- the calls are a run from what is in the purse at first to what is in it at the end
pub data Run (first : Option Coin) : List E → Option Coin → Type 0 where
  stop : Run first [] first
  take : (log : List E) (pass : ℕ) (s : Option Coin) → Run first log s → Run first (log ++ entry pass Take (Got s) ∷ []) None
  back : (log : List E) (pass : ℕ) (c : Coin) → Run first log None → Run first (log ++ entry pass (Back c) Thanks ∷ []) (Some c)

-- what a pass holds after one more of its own entries
abbrev pub or_held : Option Coin → Option Coin → Option Coin
or_held (Some c) o = Some c
or_held None o = o

abbrev pub after_reply : Option Coin → Answer → Option Coin
after_reply o (Got c) = or_held c o
after_reply o Thanks = o

abbrev pub after : Option Coin → Ask → Answer → Option Coin
after o Take r = after_reply o r
after o (Back c) r = None

abbrev pub held_from : Option Coin → List E → Option Coin
held_from o [] = o
held_from o (e ∷ es) = held_from (after o e.act e.reply) es

-- what a pass holds by its own entries
abbrev pub held : List E → Option Coin
held own = held_from None own

-- the coin that a call brought, if it brought one
abbrev pub coin_of : Option (ℕ × Option Coin) → Option Coin
coin_of None = None
coin_of (Some got) = got.1

abbrev pub May : List E → Ask → Type 0
May own Take = Unit {0}
May own (Back c) = held own ≡ Some c

abbrev pub Legal : Purse → List E → Type 0
Legal first log = (s : Option Coin) × Run first.coin log s

-- the purse has the coin that the run leaves, and counts its calls
abbrev pub Stands : Purse → List E → Purse → Type 0
Stands first log purse = Run first.coin log purse.coin × (purse.calls ≡ length log)

abbrev pub CanServe : Purse → Ask → ℕ → Type 0
CanServe purse act place = (first : Purse) × (log : List E) × (pass : ℕ) × Due Legal Stands (λ first. May) first log pass purse act place
