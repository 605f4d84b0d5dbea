-- The opening call of a fast version
use Rattle.std.specs.Prelude.{◌≡◌, ℕ, ◌<◌, ◌⊎◌}
use Rattle.speculation.specs.declared.tracks.Kind.{Kind}
use Rattle.speculation.specs.declared.tracks.Kind.TheVariants.{Fast}
use Rattle.guest_model.specs.Registers.{RegFile, with_result}

-- one instruction: the call was answered by 1
pub record HasOpened (kind : Kind) (own limit : ℕ) (old new : RegFile) (n : ℕ) : Type 0 where
  pub count : n ≡ 1
  pub fast : kind ≡ Fast
  pub first : own ≡ 0
  pub room : 0 < limit
  pub answered : new ≡ with_result old 10 1

-- none: the track isn't a fast version at its start, or no instruction may be taken
pub record HasNotOpened (kind : Kind) (own limit : ℕ) (old new : RegFile) (n : ℕ) : Type 0 where
  pub count : n ≡ 0
  pub same : new ≡ old
  pub behind : kind ≡ Fast → own ≡ 0 → limit ≡ 0

abbrev pub Opens : Kind → (own limit : ℕ) → (old new : RegFile) → ℕ → Type 0
Opens kind own limit old new n = HasOpened kind own limit old new n ⊎ HasNotOpened kind own limit old new n
