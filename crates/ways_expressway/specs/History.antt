-- When an accident stood in a stretch: what is kept of the seconds before the current one.
use Rattle.std.specs.Prelude.{◌≡◌, ℕ, ◌+◌, ◌-◌, ◌*◌, ◌/◌, ◌≤◌, ◌<◌, ◌==◌, ◌||◌, ◌&&◌, nat_le, nat_lt, Bool, true, false}
use Rattle.ways_expressway.specs.declared.spell.Spell.{Spell}

-- whether the minute is one of those marked
abbrev pub is_marked : Spell → ℕ → Bool
is_marked s m = s.last == m || s.before == m

-- what is kept of the seconds before this one at which an accident stood: where one stands now, it did so ever since;
-- of the minute before and the present one, those are marked in which one stood earlier
pub record IsHistory (second : ℕ) (s : Spell) (stood_at : ℕ → Bool) : Type 0 where
  pub begun : 1 ≤ s.places → s.since ≤ second
  pub ever_since : 1 ≤ s.places → (t : ℕ) → s.since ≤ t → t < second → stood_at t ≡ true
  pub marked : (m : ℕ) → 1 ≤ m → second / 60 ≤ m → is_marked s m ≡ true → (t : ℕ) × (60 * (m - 1) ≤ t)
      × (t < 60 * (m - 1) + 60) × (t < second) × (stood_at t ≡ true)
  pub unmarked : (m : ℕ) → 1 ≤ m → second / 60 ≤ m → is_marked s m ≡ false → (t : ℕ) → 60 * (m - 1) ≤ t →
      t < 60 * (m - 1) + 60 → t < second → (1 ≤ s.places → t < s.since) → stood_at t ≡ false

-- whether an accident stood in the minute before, where an accident that stands now has stood until now
abbrev pub stood_earlier : ℕ → Spell → Bool
stood_earlier second s = nat_lt s.since (60 * (second / 60)) || is_marked s (second / 60)

-- whether an accident stood in this minute before the current second, where one that stands now has stood until now
abbrev pub stood_lately : ℕ → Spell → Bool
stood_lately second s = nat_lt s.since second && nat_lt (60 * (second / 60)) second || is_marked s (second / 60 + 1)

-- whether an accident stood in the minute before; none did where this minute is the first
abbrev pub stood_last : ℕ → Spell → Bool
stood_last second s =
    nat_lt 0 (second / 60) && (nat_le 1 s.places && nat_lt s.since (60 * (second / 60)) || is_marked s (second / 60))
