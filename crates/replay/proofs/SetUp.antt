-- A header whose set-up no refusal applies to has small numbers. Assumes nothing.
use Rattle.std.proofs.Common.{◌≡◌, ℕ, ◌+◌, ◌*◌, ◌≤◌, List, sym, ap, subst, mul-le-mul, arith}
use Rattle.answer.specs.First.{first}
use Rattle.capture.specs.declared.Header.{Header}
use Rattle.capture.specs.Content.{most_entries}
use Rattle.capture.specs.Calls.{header_read}
use Rattle.capture.proofs.Claims.{few-entries}
use Rattle.window.specs.declared.Window.{Window}
use Rattle.window.specs.Limits.{most_positions, most_records, set_up_tests}
use Rattle.window.specs.Bounds.{set_up_good}

pub record Small (h : Header) : Type 0 where
  pub n-high : h.n ≤ most_positions
  pub k-high : h.k ≤ most_records
  pub p-high : h.p ≤ 1428

pub small : (h : Header) (w : Window)
    → w ≡ record { base = h.base; ssrc = 0; l = h.l; d = h.d; p = h.p; n = h.n; k = h.k; present = 0; in_use = 0 }
    → 0 ≡ first (set_up_tests w) → Small h
small h w e f =
    let g = set_up_good w (sym f) in
    record {
      n-high = subst (λ (m : ℕ). m ≤ most_positions) (ap (λ (v : Window). v.n) e) g.n-high;
      k-high = subst (λ (m : ℕ). m ≤ most_records) (ap (λ (v : Window). v.k) e) g.k-high;
      p-high = subst (λ (m : ℕ). m ≤ 1428) (ap (λ (v : Window). v.p) e) g.p-high;
    }

pub small_media : (h : Header) → Small h → h.n * h.p ≤ 571200
small_media h s = mul-le-mul {n₁ = h.n} {n₂ = 400} {m₂ = 1428} s.n-high s.p-high

pub small_product : (h : Header) → Small h → (h.n + h.k) * h.p ≤ 753984
small_product h s = mul-le-mul {n₁ = h.n + h.k} {n₂ = 528} {m₂ = 1428} (omega (arith, s.n-high, s.k-high)) s.p-high

-- a header that was read has few entries
pub few : (front : List ℕ) (h : Header) → h ≡ header_read front → h.count ≤ most_entries
few front h e = subst (λ (m : ℕ). m ≤ most_entries) (sym (ap (λ (x : Header). x.count) e)) (few-entries front)
