-- The last step of safety: the silences put together, the invariant after each event, and no loop and one root from it.
--
-- `Silent` puts together how long devices stay silent (13 to 18). 14, that the devices behind the backup root wait long enough,
-- comes from the statements of `behind`, which are shown in `spans`, `fallbacks`, `paths`, `feeds`, `takeovers`, `stragglers`
-- and, where the backup root is new, `commits`. With the silences each kind of event keeps the invariant (`renewals`), so it
-- holds after each event of a steady history (`Kept`: `stays_invariant`, and `comes` for what the silences are said of). From it
-- follows `stays_safe` (`Safe`), with nothing assumed.
pub mod Silent
pub mod Kept
pub mod Safe
