-- A header as contracts see it, and what its calls make of it.
use Rattle.std.specs.Prelude.{◌≡◌, ℕ, ◌≤◌, Bool, true, false, List, [], length, drop, take, Option, Some, None, option_map}
use Rattle.il_machine.specs.declared.port.Mark.{Mark}
use Rattle.il_machine.specs.Buffers.{Held}
use Rattle.il_machine.specs.Lists.{overwritten}
use Rattle.header_core.specs.Rewriting.{rewritten}
use Rattle.header_core.specs.declared.memory.Store.{Store}
use Rattle.header_core.specs.declared.memory.Store.TheVariants.{Own, Region}
use Rattle.header_core.specs.Keys.{key_number}

pub record BufferHeader : Type 0 where
  -- the headers of one graph have one, and those of two aren't known to have the same
  pub key : ℕ
  -- what its holder sees
  pub held : Held
  pub store : Store

-- ---- memory

-- every byte of the memory, whether a header's content has it or not
abbrev pub bytes_of : Store → List ℕ
bytes_of (Own bytes) = bytes
bytes_of (Region block) = block.bytes

abbrev pub is_clients : Store → Bool
is_clients (Own bytes) = true
is_clients (Region block) = false

-- the bytes where the memory is the client's own
abbrev pub own_memory : Store → Option (List ℕ)
own_memory (Own bytes) = Some bytes
own_memory (Region block) = None

abbrev pub with_bytes : List ℕ → Store → Store
with_bytes bytes (Own old) = Own bytes
with_bytes bytes (Region block) = Region (record block { bytes = bytes })

-- a block is one of the region that has the key
abbrev pub IsOfKey : ℕ → Store → Type 0
IsOfKey key (Own bytes) = Unit {0}
IsOfKey key (Region block) = key_number block.key ≡ key

-- ---- headers

-- what is true of each header
pub record IsSized (h : BufferHeader) : Type 0 where
  pub some : 1 ≤ h.held.size
  pub limit : h.held.size ≤ 4096
  pub room : h.held.size ≤ length (bytes_of h.store)
  pub content : length h.held.content ≤ h.held.size
  pub memory : h.held.memory ≡ own_memory h.store

abbrev pub empty_held : ℕ → ℕ → Option (List ℕ) → Held
empty_held number size memory = record { number = number; size = size; content = []; flags = 0; mark = None; memory = memory }

abbrev pub fresh : ℕ → ℕ → Store → ℕ → BufferHeader
fresh key number store size = record { key = key; held = empty_held number size (own_memory store); store = store }

-- the content and the flags are new, and the content stands at the front of the memory
abbrev pub with_content : List ℕ → ℕ → Held → Held
with_content content flags h = record h { content = content; flags = flags; memory = option_map (overwritten content) h.memory }

abbrev pub filled : List ℕ → ℕ → BufferHeader → BufferHeader
filled content flags h = record h {
  held = with_content content flags h.held;
  store = with_bytes (overwritten content (bytes_of h.store)) h.store;
}

-- the memory was written anew, and its first so many bytes are the content, with the flags
abbrev pub refilled : ℕ → ℕ → List ℕ → BufferHeader → BufferHeader
refilled bytes flags written h = record h {
  held = record h.held { content = take bytes (rewritten (bytes_of h.store) written); flags = flags; memory = option_map (λ memory. rewritten memory written) h.held.memory };
  store = with_bytes (rewritten (bytes_of h.store) written) h.store;
}

-- without content, flags and mark; the memory is as before
abbrev pub cleared : BufferHeader → BufferHeader
cleared h = record h { held = empty_held h.held.number h.held.size h.held.memory }

abbrev pub with_mark : Option Mark → BufferHeader → BufferHeader
with_mark mark h = record h { held = record h.held { mark = mark } }

abbrev pub marked : Mark → BufferHeader → BufferHeader
marked mark h = record h { held = record h.held { mark = Some mark } }

-- without so many bytes at the front of the content; the memory is as before
abbrev pub advanced : ℕ → BufferHeader → BufferHeader
advanced bytes h = record h { held = record h.held { content = drop bytes h.held.content } }
