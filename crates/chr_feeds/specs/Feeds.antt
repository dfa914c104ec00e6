-- A feed at rest.
use Rattle.std.specs.Prelude.{◌≡◌, ℕ, ◌+◌, ◌^◌, ◌<◌, ◌≤◌, Bool, IsTrue, List}
use Rattle.sqlite_disk.specs.Disk.{Only}
use Rattle.chr_records.specs.Records.{size_of, records_of}
use Rattle.chr_feeds.specs.Files.{IsBlank}
use Rattle.chr_feeds.specs.declared.feed.Feed.{Feed}

-- Behind the feed's records stands a closed gate, and all of it is on the disk.
pub record IsAtRest {D : Type 0} (seen : D → List ℕ) (may_leave : D → List ℕ → Type 0) (is_usable : D → Bool)
    (feed : Feed D) : Type 0 where
  pub size : feed.size ≡ size_of (seen feed.disk)
  pub blank : IsBlank feed.size feed.room (seen feed.disk)
  pub shut : 0 < feed.room
  pub small : feed.size + feed.room ≤ 2 ^ 60
  pub durable : Only (seen feed.disk) (may_leave feed.disk)
  pub usable : IsTrue (is_usable feed.disk)

-- The feed can be appended to as before: it is at rest with the records that it had, and no call of its disk has
-- failed.
pub record GoesOn {D : Type 0} (seen : D → List ℕ) (may_leave : D → List ℕ → Type 0) (is_usable : D → Bool)
    (faults : D → ℕ) (old new : Feed D) : Type 0 where
  pub at_rest : IsAtRest seen may_leave is_usable new
  pub records : records_of (seen new.disk) ≡ records_of (seen old.disk)
  pub faults_stay : faults new.disk ≡ faults old.disk
