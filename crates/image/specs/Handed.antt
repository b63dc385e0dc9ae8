-- An image as it is handed to a call, as document 01's image. Assumes nothing.
use Rattle.image.specs.Image as Whole
use Rattle.image.specs.declared.handed.Image.{Image}

abbrev pub handed : Image → Whole.Image
handed i = Whole.image_of i.geometry i.header i.bytes.now
