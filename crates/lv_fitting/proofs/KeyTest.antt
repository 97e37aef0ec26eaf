-- The test of labels is equality.
use Rattle.std.proofs.Common.{◌≡◌, true}
use Rattle.lv_labels.specs.declared.key.Key.{Key}
use Rattle.lv_labels.specs.Labels.{key_eq}
use Rattle.lv_labels.proofs.Sameness.{key_decides}

pub key_is : (a b : Key) → key_eq a b ≡ true → a ≡ b
key_is a b e = key_decides.sound a b e

pub key_self : (a : Key) → key_eq a a ≡ true
key_self a = key_decides.reflexive a
