-- What was used of an input, and what was read beyond it.
use Rattle.std.proofs.Common.{◌≡◌, ℕ, ◌+◌, List, [], ◌∷◌, ◌++◌, Option, Some, None, ◌∙◌, ap, sym, arith, take, drop, append_assoc}
use Rattle.std.specs.Io.KnownBytes.{Consumes, IsAtEnd, prepend_known}
use Rattle.fz_runs.specs.declared.text.chunk.Chunk.{Chunk}
use Rattle.fz_runs.specs.Reading.{unread}

-- nothing is unread before the first read
pub fresh : (chunk : Chunk) → (chunk.at ≡ 0) × (chunk.len ≡ 0) → unread chunk ≡ []
fresh chunk h = ap (λ a. drop a (take chunk.len chunk.bytes)) h.0 ∙ ap (λ n. take n chunk.bytes) h.1

pub took_start : (r : Option (List ℕ)) (u : List ℕ) → u ≡ [] → Consumes r (prepend_known u r) []
took_start None u e = tt
took_start (Some v) u e = ap (λ w. w ++ v) (sym e)

-- what was used and what was read beyond it
pub took_ahead : (a r : Option (List ℕ)) (y u : List ℕ) → Consumes a (prepend_known u r) y → Consumes a r (y ++ u)
took_ahead None r y u e = tt
took_ahead (Some x) None y u e = absurd e
took_ahead (Some x) (Some v) y u e = e ∙ sym (append_assoc y u v)

pub took_all : (a r : Option (List ℕ)) (y u : List ℕ) → IsAtEnd (prepend_known u r) → Consumes a (prepend_known u r) y → Consumes a r y × IsAtEnd r
took_all None None y u h e = (tt, tt)
took_all (Some x) None y u h e = absurd e
took_all a (Some v) y [] h e = (e, h)
took_all a (Some v) y (b ∷ bs) h e = cc

-- no failure more
pub no_more : {n m k : ℕ} → n ≡ m → k ≡ 0 → n ≡ m + k
no_more e z = omega (arith, e, z)
