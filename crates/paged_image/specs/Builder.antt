-- The bytes of an image that is being made
use Rattle.guest_model.specs.ByteMap.{ByteMap}
use Rattle.paged_image.specs.Pages.{bytes_at, paged}
use Rattle.paged_image.specs.declared.builder.Builder.{Builder}

unfoldable pub built : Builder → ByteMap
built b = paged (bytes_at b.index.items b.entries.items)
