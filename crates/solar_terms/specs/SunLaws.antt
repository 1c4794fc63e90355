-- What is true of a sun, as sentences: over fewer minutes or at a greater depth it lies in what it was before, and the
-- sun on the grid holds it.
use Rattle.std.specs.Prelude.{ℕ, ◌≤◌}
use Rattle.fixed_interval.specs.Enclosure.{Enclosure, IsOrdered, LiesIn}
use Rattle.fixed_interval.specs.Grid.{Range, enclosure_of, enclosure_of_range, DEPTH}
use Rattle.solar_terms.specs.Sun.{ExactSun, SunTerms, exact_sun, grid_sun}

pub record SunIsOrdered (s : ExactSun) : Type 0 where
  pub sin_l : IsOrdered s.sin_l
  pub cos_l : IsOrdered s.cos_l
  pub sin_e : IsOrdered s.sin_e
  pub cos_e : IsOrdered s.cos_e
  pub q : IsOrdered s.q

-- each term of s lies in the term of t
pub record SunLiesIn (s t : ExactSun) : Type 0 where
  pub sin_l : LiesIn s.sin_l t.sin_l
  pub cos_l : LiesIn s.cos_l t.cos_l
  pub sin_e : LiesIn s.sin_e t.sin_e
  pub cos_e : LiesIn s.cos_e t.cos_e
  pub q : LiesIn s.q t.q

-- the terms on the grid as exact enclosures
unfoldable pub exact_terms : SunTerms → ExactSun
exact_terms s = record {
  sin_l = enclosure_of s.sin_l;
  cos_l = enclosure_of s.cos_l;
  sin_e = enclosure_of s.sin_e;
  cos_e = enclosure_of s.cos_e;
  q = enclosure_of_range s.q;
}

-- a sun by depth and minutes: `exact_sun`, or one by another source
abbrev pub SunSource : Type 0
SunSource = ℕ → Enclosure → ExactSun

-- its terms are in order, and over fewer minutes or at a greater depth they lie in what they were before
pub record IsSunSource (sun : SunSource) : Type 0 where
  pub ordered : (n : ℕ) (m : Enclosure) → IsOrdered m → SunIsOrdered (sun n m)
  pub narrows :
      (n n' : ℕ) (m m' : Enclosure) → n' ≤ n → IsOrdered m → LiesIn m m' →
      SunLiesIn (sun n m) (sun n' m')

-- the sun on the grid over whole minutes holds the exact sun of minutes among them
pub record GridHoldsSun (sun : SunSource) (grid : Range → SunTerms) : Type 0 where
  pub holds :
      (m : Enclosure) (r : Range) → IsOrdered m → LiesIn m (enclosure_of_range r) →
      SunLiesIn (sun DEPTH m) (exact_terms (grid r))

-- the observatory's sun is such a source, and its grid form holds it
pub record ObservatoryIsSound : Type 0 where
  pub source : IsSunSource exact_sun
  pub grid : GridHoldsSun exact_sun grid_sun
